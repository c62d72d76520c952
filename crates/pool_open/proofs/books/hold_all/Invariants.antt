use Rattle.std.proofs.Common.{take}
use Rattle.pool_open.specs.Found.{AddsHeld, IsHeldFirst}
use Rattle.pool_open.specs.Looking.{OnlyLooks}
use Rattle.pool_open.proofs.books.hold_all.Given as goal

abbrev pub invariant-loop-on : goal.invariant-loop-on
invariant-loop-on g l = record {
  held : AddsHeld (g.D.PoolDisks.worlds l.disks) l.id l.stamp (take l.on-index l.places) l.fn.leftovers.items l.leftovers.items;
  is_first : IsHeldFirst (g.D.PoolDisks.worlds l.disks) l.id (take l.on-index l.places) l.first;
  looks : OnlyLooks g.D.PoolDisks l.fn.disks l.disks;
}
