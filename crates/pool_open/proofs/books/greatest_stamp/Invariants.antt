use Rattle.std.proofs.Common.{take}
use Rattle.pool_open.specs.Found.{IsGreatestStamp, writing_stamps}
use Rattle.pool_open.proofs.books.greatest_stamp.Given as goal

abbrev pub invariant-loop-on : goal.invariant-loop-on
invariant-loop-on l = IsGreatestStamp (writing_stamps (take l.on-index l.places)) l.greatest
