use Rattle.std.proofs.Common.{◌≡◌, ℕ, ◌+◌, take, sum_by, slice_index}
use Rattle.replica_map.specs.Counting.{leftover_use}
use Rattle.replica_map.specs.Kept.{leftover_excess}
use Rattle.replica_map.proofs.replica_map.count_leftovers.Given as goal

-- the leftovers that are passed are counted, and are in their types' ranges
abbrev pub invariant-loop-leftover : goal.invariant-loop-leftover
invariant-loop-leftover l = record {
  uses : (vol : ℕ) → slice_index l.uses.sums vol ≡ slice_index l.fn.uses.sums vol + sum_by (leftover_use vol) (take l.leftover-index l.leftovers);
  ranges : sum_by leftover_excess (take l.leftover-index l.leftovers) ≡ 0;
}
