use Rattle.std.proofs.Common.{◌≡◌, sym, ◌∙◌, subst}
use Rattle.std.specs.Prelude.{codes}
use Rattle.disk_model.specs.Worlds.{IsListing}
use Rattle.disk_model.specs.Told.{InEachWorld}
use Rattle.pool_survey.specs.declared.naming.Directory.TheVariants.{Writing}
use Rattle.pool_survey.proofs.Told.{tell_one, stays, answered, runs_on}
use Rattle.pool_survey.proofs.Regions.{exact_directory}
use Rattle.pool_survey.proofs.Whole.{none_finalised, picks}
use Rattle.pool_survey.proofs.surveying.survey_volume.Goals as goal

pub survey_finalised-requires-clause-fresh : goal.survey_finalised-requires-clause-fresh
survey_finalised-requires-clause-fresh g c =
    none_finalised c.new-blocks.result c.add_names.new.blocks c.new-blocks.ensures.empty c.in_ok-add_names.ensures.others

pub returns-in_err-survey_finalised-clause-time : goal.returns-in_err-survey_finalised-clause-time
returns-in_err-survey_finalised-clause-time g c =
    let rbw = c.in_ok-writing.ensures in
    let tmp = c.in_ok-temporary.ensures in
    let looked = c.survey_finalised.ensures.looked in
    runs_on looked.worlds (runs_on (stays tmp.ok (tell_one rbw.ok)) rbw.time tmp.time) looked.time

pub returns-clause-time : goal.returns-clause-time
returns-clause-time g c =
    let rbw = c.in_ok-writing.ensures in
    let tmp = c.in_ok-temporary.ensures in
    let looked = c.survey_finalised.ensures.looked in
    runs_on looked.worlds (runs_on (stays tmp.ok (tell_one rbw.ok)) rbw.time tmp.time) looked.time

pub returns-clause-ok : goal.returns-clause-ok
returns-clause-ok g c =
    let rbw = c.in_ok-writing.ensures in
    let tmp = c.in_ok-temporary.ensures in
    let added = c.in_ok-add_names.ensures in
    let finalised = c.in_ok-survey_finalised.ensures in
    let worlds = g.D.PoolDisks.worlds in
    let same : worlds c.survey_finalised.new.disks ≡ worlds c.list.new.self = finalised.looked.worlds ∙ stays tmp.ok (tell_one rbw.ok) in
    let temporary : InEachWorld (worlds c.survey_finalised.new.disks) (λ world. IsListing world c.args.vol (codes "tmp") c.in_ok-temporary.temporary) =
    subst (λ told. InEachWorld told (λ world. IsListing world c.args.vol (codes "tmp") c.in_ok-temporary.temporary)) (sym finalised.looked.worlds) (answered tmp.ok) in
    picks _ c.add_names.new.blocks rbw.ok same (λ world listing. exact_directory Writing world c.args.vol c.in_ok-writing.writing c.add_names.new.blocks listing added.listed)
    finalised.blocks finalised.others finalised.exact temporary
