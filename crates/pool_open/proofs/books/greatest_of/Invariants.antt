use Rattle.std.proofs.Common.{take}
use Rattle.pool_open.specs.Found.{IsGreatestOf}
use Rattle.pool_open.proofs.books.greatest_of.Given as goal

abbrev pub invariant-loop-stamp : goal.invariant-loop-stamp
invariant-loop-stamp l = IsGreatestOf l.fn.least (take l.stamp-index l.stamps) l.greatest
