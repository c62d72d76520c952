use Rattle.disk_model.specs.Marks.{GoesOn}
use Rattle.pool_state.specs.Foreign.{LeavesForeign}
use Rattle.pool_state.proofs.Removals.{RemovedSoFar}
use Rattle.pool_state.proofs.cleaning.remove_files.Given as goal

abbrev pub invariant-loop-at : goal.invariant-loop-at
invariant-loop-at g l = record {
  so_far : RemovedSoFar l.id l.vol l.files l.at (g.D.PoolDisks.worlds l.fn.disks) (g.D.PoolDisks.worlds l.disks) (g.D.PoolDisks.left_since l.fn.disks) (g.D.PoolDisks.left_since l.disks);
  goes_on : GoesOn g.D.PoolDisks l.fn.disks l.disks;
  foreign : LeavesForeign g.D.PoolDisks l.fn.disks l.disks;
}
