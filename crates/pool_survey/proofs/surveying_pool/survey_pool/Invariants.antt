use Rattle.pool_survey.proofs.EachVolume.{HaveSurveyed}
use Rattle.pool_survey.proofs.surveying_pool.survey_pool.Given as goal

abbrev pub invariant-loop-i : goal.invariant-loop-i
invariant-loop-i g l = HaveSurveyed g.D.PoolDisks l.i l.fn.disks l.disks (record { blocks = l.blocks; temporary = l.temporary })
