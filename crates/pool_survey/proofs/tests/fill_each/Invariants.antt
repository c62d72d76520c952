use Rattle.std.proofs.Common.{◌≡◌}
use Rattle.pool_survey.proofs.tests.fill_each.Given as goal

abbrev pub invariant-loop-i : goal.invariant-loop-i
invariant-loop-i l = l.disks.store.volume_count ≡ l.volumes
