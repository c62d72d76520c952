use Rattle.std.proofs.Common.{◌≡◌}
use Rattle.std.specs.Prelude.{codes}
use Rattle.disk_model.specs.Told.{NoDraftAt}
use Rattle.pool_survey.proofs.tests.put_files.Given as goal

abbrev pub invariant-loop-path : goal.invariant-loop-path
invariant-loop-path g l = record {
  volumes : g.D.PoolDisks.volume_count l.disks ≡ 2;
  free : NoDraftAt (g.D.PoolDisks.worlds l.disks) 2 (codes "tmp/draft");
}
