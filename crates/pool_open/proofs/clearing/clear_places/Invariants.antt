use Rattle.disk_model.specs.Told.{InEachWorld}
use Rattle.disk_model.specs.Moments.{AddsOnly}
use Rattle.disk_model.specs.Marks.{GoesOn}
use Rattle.pool_state.specs.Foreign.{LeavesForeign}
use Rattle.pool_open.specs.Plan.{places_at}
use Rattle.pool_open.specs.Clearing.{LeftInOrder}
use Rattle.pool_open.proofs.Ordered.{ComesTaken}
use Rattle.pool_open.proofs.clearing.clear_places.Given as goal

abbrev pub invariant-loop-at : goal.invariant-loop-at
invariant-loop-at g l = record {
  taken : InEachWorld (g.D.PoolDisks.worlds l.disks) (ComesTaken (places_at l.places) l.at (g.D.PoolDisks.worlds l.fn.disks));
  images : AddsOnly (g.D.PoolDisks.left_since l.fn.disks) (g.D.PoolDisks.left_since l.disks) (LeftInOrder (places_at l.places) (g.D.PoolDisks.worlds l.fn.disks));
  goes_on : GoesOn g.D.PoolDisks l.fn.disks l.disks;
  foreign : LeavesForeign g.D.PoolDisks l.fn.disks l.disks;
}
