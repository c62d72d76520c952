use Rattle.std.proofs.Common.{ℕ, All, length}
use Rattle.pool_survey.specs.Places.{HaveBlockIds, places_of}
use Rattle.pool_open.specs.Surplus.{HasFiles}
use Rattle.pool_open.proofs.Bringing.{IsUnderWay}
use Rattle.pool_open.proofs.metas.bring_down.Given as goal

abbrev pub invariant-loop-id : goal.invariant-loop-id
invariant-loop-id l = record {
  ids : HaveBlockIds l.blocks;
  left_ids : HaveBlockIds l.left;
  files : (id : ℕ) → All HasFiles (places_of l.blocks id);
  under_way : (id : ℕ) → IsUnderWay l.fn.blocks l.blocks l.left id;
}

abbrev pub decreases-loop-id : goal.decreases-loop-id
decreases-loop-id l = length l.blocks.entries
