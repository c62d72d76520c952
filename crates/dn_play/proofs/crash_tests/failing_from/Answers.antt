use Rattle.std.proofs.Common.{◌∙◌}
use Rattle.dn_play.proofs.FreshImages.{fresh_aside}
use Rattle.dn_play.proofs.crash_tests.failing_from.Goals as goal

pub returns : goal.returns
returns c = record { volumes = c.in_ok-fail.ensures.volumes ∙ c.in_ok-disk.ensures.volumes; aside = fresh_aside _ (_, c.in_ok-fail.ensures.worlds ∙ c.in_ok-disk.ensures.empty) }
