use Rattle.std.proofs.Common.{◌≡◌, length}
use Rattle.dnplay.proofs.directories.Given as goal

abbrev pub invariant-loop-volume : goal.invariant-loop-volume
invariant-loop-volume l = length l.dirs.items ≡ l.volume-index
