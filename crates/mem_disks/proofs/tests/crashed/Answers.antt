use Rattle.mem_disks.proofs.Bare.{free_where_bare}
use Rattle.mem_disks.proofs.tests.crashed.Goals as goal

pub create-requires-clause-free : goal.create-requires-clause-free
create-requires-clause-free c = free_where_bare _ 1 _ c.in_ok-disks.ensures.bare

pub write_file-requires-clause-free : goal.write_file-requires-clause-free
write_file-requires-clause-free c = free_where_bare _ 1 _ c.in_ok-disks.ensures.bare
