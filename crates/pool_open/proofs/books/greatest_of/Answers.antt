use Rattle.std.proofs.Common.{arith}
use Rattle.pool_open.proofs.Greatest.{greatest_put, greatest_stays}
use Rattle.pool_open.proofs.books.greatest_of.Goals as goal
use Rattle.pool_open.proofs.books.greatest_of.Goals.{then-get, else-get}

pub loop-stamp-preserved : goal.loop-stamp-preserved
loop-stamp-preserved c = elim c.if-get.branch [
  | then-get w ↦ greatest_put c.args.least c.args.stamps.now c.loop-stamp.stamp-index c.stamp-item.result c.loop-stamp.greatest c.if-get.greatest c.loop-stamp-test.true c.stamp-item.is
      c.loop-stamp.invariant c.get.ensures.in_range (omega (arith, w.if-get.true, c.get.ensures.value, c.get-in-loop-stamp.ensures.value)) w.greatest-is
  | else-get w ↦ greatest_stays c.args.least c.args.stamps.now c.loop-stamp.stamp-index c.stamp-item.result c.loop-stamp.greatest c.if-get.greatest c.loop-stamp-test.true c.stamp-item.is
      c.loop-stamp.invariant (omega (arith, w.if-get.false, c.get.ensures.value, c.get-in-loop-stamp.ensures.value)) w.greatest-is
]
