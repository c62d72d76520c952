use Rattle.std.proofs.Common.{arith}
use Rattle.pool_survey.proofs.Told.{looked_on}
use Rattle.pool_survey.proofs.Regions.{next_row, next_row_is_fresh, all_rows}
use Rattle.pool_survey.proofs.surveying.survey_finalised.Goals as goal

pub loop-d1-preserved : goal.loop-d1-preserved
loop-d1-preserved g c =
    let worlds = g.D.PoolDisks.worlds in
    let sofar = c.loop-d1.invariant in
    let row = c.in_ok-survey_row.ensures in
    record {
      surveyed = next_row c.loop-d1.d1 (worlds c.loop-d1.disks) (worlds c.survey_row.new.disks) c.args.vol c.args.blocks.now c.loop-d1.blocks c.survey_row.new.blocks
          sofar.surveyed row.looked.worlds row.blocks row.exact row.others;
      looked = looked_on sofar.looked row.looked;
    }

pub survey_row-requires-clause-fresh : goal.survey_row-requires-clause-fresh
survey_row-requires-clause-fresh g c =
    next_row_is_fresh c.loop-d1.d1 (g.D.PoolDisks.worlds c.loop-d1.disks) (g.D.PoolDisks.worlds c.loop-d1.disks) c.args.vol c.args.blocks.now c.loop-d1.blocks c.loop-d1.blocks
    c.loop-d1.invariant.surveyed c.requires.fresh

pub returns-clause-others : goal.returns-clause-others
returns-clause-others g c =
    (all_rows c.loop-d1.d1 (omega (arith, c.loop-d1-test.false)) (g.D.PoolDisks.worlds c.loop-d1.disks) c.args.vol c.args.blocks.now c.loop-d1.blocks c.loop-d1.invariant.surveyed).others
