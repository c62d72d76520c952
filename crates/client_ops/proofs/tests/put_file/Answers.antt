use Rattle.mem_disks.proofs.Bare.{bare_settled}
use Rattle.client_ops.proofs.tests.put_file.Goals as goal

pub returns-in-Ok-clause-bare : goal.returns-in-Ok-clause-bare
returns-in-Ok-clause-bare c = bare_settled 1 c.args.path.now c.in-Some.bytes.now _ _ c.in-Ok.ensures.ok c.requires.bare
