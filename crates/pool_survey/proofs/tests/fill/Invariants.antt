use Rattle.std.proofs.Common.{◌≡◌}
use Rattle.pool_survey.proofs.tests.fill.Given as goal

abbrev pub invariant-loop-path : goal.invariant-loop-path
invariant-loop-path l = l.disks.store.volume_count ≡ l.fn.disks.store.volume_count
