use Rattle.disk_model.specs.Looking.{HaveLooked}
use Rattle.pool_survey.specs.Regions.{in_row_before}
use Rattle.pool_survey.proofs.Regions.{Surveyed}
use Rattle.pool_survey.proofs.surveying.survey_row.Given as goal

abbrev pub invariant-loop-d2 : goal.invariant-loop-d2
invariant-loop-d2 g l = record {
  surveyed : Surveyed (in_row_before l.d1 l.d2) (g.D.PoolDisks.worlds l.disks) l.vol l.fn.blocks l.blocks;
  looked : HaveLooked g.D.PoolDisks l.fn.disks l.disks;
}
