use Rattle.std.proofs.Common.{◌≡◌, ◌++◌, All}
use Rattle.std.specs.List.{flat_map}
use Rattle.volume_layout.specs.Paths.{IsBlockId}
use Rattle.pool_open.specs.Plan.{places_at, pieces_of, kept_in}
use Rattle.pool_open.proofs.paths.list_pieces.Given as goal

abbrev pub invariant-loop-id : goal.invariant-loop-id
invariant-loop-id l = record {
  ids : All (λ entry. IsBlockId entry.0) l.id-iterator;
  places_are : places_at l.places.items ++ flat_map (pieces_of l.piece (kept_in l.map)) l.id-iterator
      ≡ places_at l.fn.places.items ++ flat_map (pieces_of l.piece (kept_in l.map)) l.blocks.entries;
}
