use Rattle.std.proofs.Common.{◌≡◌, ◌≤◌, take}
use Rattle.std.specs.Prelude.{sum_by}
use Rattle.replica_map.specs.Counting.{leftover_loose}
use Rattle.replica_map.proofs.replica_map.ReplicaMap.loose_count.Given as goal

abbrev pub invariant-loop-leftover : goal.invariant-loop-leftover
invariant-loop-leftover l = record {
  count : l.count ≡ sum_by leftover_loose (take l.leftover-index l.self.leftovers);
  few : l.count ≤ l.leftover-index;
}
