use Rattle.std.proofs.Common.{◌≡◌, length}
use Rattle.os_disks.proofs.directories.pool_roots.Given as goal

abbrev pub invariant-loop-dir : goal.invariant-loop-dir
invariant-loop-dir l = length l.roots.items ≡ l.dir-index
