use Rattle.std.proofs.Common.{◌≡◌, ℕ, length}
use Rattle.pool_survey.specs.Found.{AreBlocks, found_of}
use Rattle.pool_survey.specs.Places.{HaveBlockIds, places_of, with_found}
use Rattle.pool_survey.proofs.places.merge.Given as goal

abbrev pub invariant-loop-id : goal.invariant-loop-id
invariant-loop-id l = record {
  found : AreBlocks l.found;
  ids : HaveBlockIds l.blocks;
  merged : (id : ℕ) → with_found l.vol (places_of l.blocks id) (found_of l.found id) ≡ with_found l.vol (places_of l.fn.blocks id) (found_of l.fn.found id);
}

abbrev pub decreases-loop-id : goal.decreases-loop-id
decreases-loop-id l = length l.found.entries
