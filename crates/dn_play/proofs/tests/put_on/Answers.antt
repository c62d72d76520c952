use Rattle.dn_play.proofs.PutFiles.{put_aside}
use Rattle.dn_play.proofs.tests.put_on.Goals as goal

pub returns-in-Ok-clause-aside : goal.returns-in-Ok-clause-aside
returns-in-Ok-clause-aside c = put_aside c.args.vol c.args.path.now c.args.bytes.now _ _ c.in-Ok.ensures.ok c.requires.aside
