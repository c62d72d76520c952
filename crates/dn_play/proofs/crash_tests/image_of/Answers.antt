use Rattle.dn_play.proofs.FreshImages.{each_fresh}
use Rattle.dn_play.proofs.crash_tests.image_of.Goals as goal

pub returns : goal.returns
returns c = record { aside = each_fresh c.image.result _ c.image.ensures.fresh }
