use Rattle.std.proofs.Common.{◌≡◌, ◌++◌, take}
use Rattle.std.specs.List.{flat_map}
use Rattle.pool_open.specs.Plan.{places_at, piece_on}
use Rattle.pool_open.proofs.paths.push_pieces.Given as goal

abbrev pub invariant-loop-on : goal.invariant-loop-on
invariant-loop-on l = places_at l.places.items ≡ places_at l.fn.places.items ++ flat_map (piece_on l.piece l.kept l.id) (take l.on-index l.found)
