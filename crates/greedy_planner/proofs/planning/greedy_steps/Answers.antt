use Rattle.std.proofs.Common.{◌≡◌, ◌∙◌, ap}
use Rattle.greedy_planner.specs.Volumes.{volumes_of}
use Rattle.greedy_planner.proofs.Plans.{sound_start}
use Rattle.greedy_planner.proofs.planning.greedy_steps.Goals as goal

pub steps_from-requires-clause-sound : goal.steps_from-requires-clause-sound
steps_from-requires-clause-sound c =
    let volumes : c.deref_mut.result.now ≡ volumes_of c.args.report.now =
    c.deref_mut.ensures.value ∙ c.in_ok-volumes.ensures ∙ ap volumes_of c.rows.ensures.rows in
    sound_start c.args.report.now c.total_capacity.result c.total_used.result c.deref_mut.result.now
    c.rows.ensures.limits c.total_capacity.ensures.total c.total_used.ensures.total c.total_capacity.ensures.limit c.total_used.ensures.limit volumes
