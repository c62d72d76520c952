use Rattle.std.proofs.Common.{◌≡◌, ◌≤◌, ◌∙◌, subst, arith}
use Rattle.pool_survey.proofs.LookingOn.{looks_by}
use Rattle.pool_survey.proofs.EachVolume.{HaveSurveyed, looked_further, surveyed_further, all_volumes}
use Rattle.pool_survey.proofs.surveying_pool.survey_pool.Goals as goal

pub returns-in_err-survey-clause-looks : goal.returns-in_err-survey-clause-looks
returns-in_err-survey-clause-looks g c =
    let call = c.in_err-survey.ensures in
    (looked_further c.loop-i.i c.args.disks.now c.loop-i.disks c.survey_volume.new.disks (record { blocks = c.loop-i.blocks; temporary = c.loop-i.temporary })
    c.loop-i.invariant (g.met.D.PoolDisks.is_disk c.survey_volume.new.disks).some
    (looks_by call.looks call.honest call.time call.cause.later call.absences call.numbers call.volumes)).remains

pub returns-in_err-survey-clause-time : goal.returns-in_err-survey-clause-time
returns-in_err-survey-clause-time g c =
    let call = c.in_err-survey.ensures in
    (looked_further c.loop-i.i c.args.disks.now c.loop-i.disks c.survey_volume.new.disks (record { blocks = c.loop-i.blocks; temporary = c.loop-i.temporary })
    c.loop-i.invariant (g.met.D.PoolDisks.is_disk c.survey_volume.new.disks).some
    (looks_by call.looks call.honest call.time call.cause.later call.absences call.numbers call.volumes)).time

pub returns-in_err-merge-clause-looks : goal.returns-in_err-merge-clause-looks
returns-in_err-merge-clause-looks g c =
    let call = c.in_ok-survey.ensures in
    (looked_further c.loop-i.i c.args.disks.now c.loop-i.disks c.survey_volume.new.disks (record { blocks = c.loop-i.blocks; temporary = c.loop-i.temporary })
    c.loop-i.invariant (g.met.D.PoolDisks.is_disk c.survey_volume.new.disks).some
    (looks_by call.looks call.honest call.time call.cause.later call.absences call.numbers call.volumes)).remains

pub returns-in_err-merge-clause-time : goal.returns-in_err-merge-clause-time
returns-in_err-merge-clause-time g c =
    let call = c.in_ok-survey.ensures in
    (looked_further c.loop-i.i c.args.disks.now c.loop-i.disks c.survey_volume.new.disks (record { blocks = c.loop-i.blocks; temporary = c.loop-i.temporary })
    c.loop-i.invariant (g.met.D.PoolDisks.is_disk c.survey_volume.new.disks).some
    (looks_by call.looks call.honest call.time call.cause.later call.absences call.numbers call.volumes)).time

pub returns-in_err-push-clause-looks : goal.returns-in_err-push-clause-looks
returns-in_err-push-clause-looks g c =
    let call = c.in_ok-survey.ensures in
    (looked_further c.loop-i.i c.args.disks.now c.loop-i.disks c.survey_volume.new.disks (record { blocks = c.loop-i.blocks; temporary = c.loop-i.temporary })
    c.loop-i.invariant (g.met.D.PoolDisks.is_disk c.survey_volume.new.disks).some
    (looks_by call.looks call.honest call.time call.cause.later call.absences call.numbers call.volumes)).remains

pub returns-in_err-push-clause-time : goal.returns-in_err-push-clause-time
returns-in_err-push-clause-time g c =
    let call = c.in_ok-survey.ensures in
    (looked_further c.loop-i.i c.args.disks.now c.loop-i.disks c.survey_volume.new.disks (record { blocks = c.loop-i.blocks; temporary = c.loop-i.temporary })
    c.loop-i.invariant (g.met.D.PoolDisks.is_disk c.survey_volume.new.disks).some
    (looks_by call.looks call.honest call.time call.cause.later call.absences call.numbers call.volumes)).time

pub loop-i-preserved : goal.loop-i-preserved
loop-i-preserved g c =
    let call = c.in_ok-survey.ensures in
    surveyed_further c.loop-i.i c.args.disks.now c.loop-i.disks c.survey_volume.new.disks (record { blocks = c.loop-i.blocks; temporary = c.loop-i.temporary })
    c.loop-i.invariant (g.met.D.PoolDisks.is_disk c.survey_volume.new.disks).some
    (looks_by call.looks call.honest call.time call.cause.later call.absences call.numbers call.volumes)
    c.in_ok-survey.survey (record { blocks = c.merge.new.blocks; temporary = c.push.new.self })
    call.ok call.blocks c.in_ok-merge.ensures.ids c.in_ok-merge.ensures.merged c.in_ok-push.ensures.items

pub returns-clause-ok : goal.returns-clause-ok
returns-clause-ok g c =
    let volumes = c.volumes-volumes.ensures.volumes in
    let last : c.loop-i.i ≡ g.D.PoolDisks.volume_count c.args.disks.now = omega (arith, c.loop-i-test.false, c.loop-i.auto.i-end, volumes) in
    all_volumes c.args.disks.now c.loop-i.disks (record { blocks = c.loop-i.blocks; temporary = c.loop-i.temporary })
    (subst (λ n. HaveSurveyed g.D.PoolDisks n c.args.disks.now c.loop-i.disks (record { blocks = c.loop-i.blocks; temporary = c.loop-i.temporary })) last c.loop-i.invariant)
    (subst (λ n. 1 ≤ n) volumes c.volumes-volumes.ensures.some)

pub returns-clause-counted : goal.returns-clause-counted
returns-clause-counted g c =
    let volumes = c.volumes-volumes.ensures.volumes in
    let last : c.loop-i.i ≡ g.D.PoolDisks.volume_count c.args.disks.now = omega (arith, c.loop-i-test.false, c.loop-i.auto.i-end, volumes) in
    c.loop-i.invariant.counted ∙ last

pub returns-clause-limit : goal.returns-clause-limit
returns-clause-limit g c =
    let volumes = c.volumes-volumes.ensures.volumes in
    let last : c.loop-i.i ≡ g.D.PoolDisks.volume_count c.args.disks.now = omega (arith, c.loop-i-test.false, c.loop-i.auto.i-end, volumes) in
    (omega (arith, c.loop-i.invariant.counted, last, volumes, c.volumes-volumes.ensures.some), omega (arith, c.loop-i.invariant.counted, last, volumes, c.volumes-volumes.ensures.limit))
