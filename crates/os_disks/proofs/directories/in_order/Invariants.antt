use Rattle.disk_model.specs.Names.{IsInOrder}
use Rattle.os_disks.proofs.directories.in_order.Given as goal

abbrev pub invariant-loop-file : goal.invariant-loop-file
invariant-loop-file l = IsInOrder l.names
