use Rattle.std.proofs.Common.{◌≡◌, ◌++◌, take}
use Rattle.pool_open.specs.Plan.{places_at, names_on}
use Rattle.pool_open.proofs.paths.push_names.Given as goal

abbrev pub invariant-loop-i : goal.invariant-loop-i
invariant-loop-i l = places_at l.places.items ≡ places_at l.fn.places.items ++ names_on l.vol (take l.i l.names)
