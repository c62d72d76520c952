use Rattle.mem_disks.proofs.Bare.{bare_settled}
use Rattle.mem_disks.proofs.tests.put_file.Goals as goal

pub returns-in-Ok-clause-bare : goal.returns-in-Ok-clause-bare
returns-in-Ok-clause-bare c = bare_settled c.args.vol c.args.path.now c.args.bytes.now _ _ c.in-Ok.ensures.ok c.requires.bare
