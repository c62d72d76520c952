use Rattle.disk_model.specs.Looking.{HaveLooked}
use Rattle.pool_survey.specs.Regions.{in_rows_before}
use Rattle.pool_survey.proofs.Regions.{Surveyed}
use Rattle.pool_survey.proofs.surveying.survey_finalised.Given as goal

abbrev pub invariant-loop-d1 : goal.invariant-loop-d1
invariant-loop-d1 g l = record {
  surveyed : Surveyed (in_rows_before l.d1) (g.D.PoolDisks.worlds l.disks) l.vol l.fn.blocks l.blocks;
  looked : HaveLooked g.D.PoolDisks l.fn.disks l.disks;
}
