use Rattle.std.proofs.Common.{take}
use Rattle.pool_open.specs.Found.{AreCopies}
use Rattle.pool_open.specs.Looking.{OnlyLooks}
use Rattle.pool_open.proofs.books.find_copies.Given as goal

abbrev pub invariant-loop-on : goal.invariant-loop-on
invariant-loop-on g l = record {
  are : AreCopies (g.D.PoolDisks.worlds l.disks) l.id (take l.on-index l.places) l.copies.items;
  looks : OnlyLooks g.D.PoolDisks l.fn.disks l.disks;
}
