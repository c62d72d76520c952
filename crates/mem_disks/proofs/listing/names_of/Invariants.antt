use Rattle.mem_disks.proofs.Directory.{Listed}
use Rattle.mem_disks.proofs.listing.names_of.Given as goal

abbrev pub invariant-loop-path : goal.invariant-loop-path
invariant-loop-path l = Listed l.dir l.initial.path-iterator l.path-iterator l.names
