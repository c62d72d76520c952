use Rattle.std.proofs.Common.{subst, List, [], append-nil}
use Rattle.greedy_planner.specs.declared.volume.Step.{Step}
use Rattle.greedy_planner.specs.Greedy.{IsPlanOf}
use Rattle.greedy_planner.proofs.Turns.{turn_works}
use Rattle.greedy_planner.proofs.Plans.{plan_goes_on, sound_goes_on}
use Rattle.greedy_planner.proofs.planning.steps_from.Goals as goal

pub turns-smaller : goal.turns-smaller
turns-smaller c =
    let first = c.in-Some.ensures in
    rw c.add_turn.ensures.volumes (turn_works c.args.totals.now c.in-Some.turn c.turns.volumes first.1 first.2)

pub turns-preserved : goal.turns-preserved
turns-preserved c =
    let first = c.in-Some.ensures in
    record {
      sound = sound_goes_on c.args.totals.now c.in-Some.turn c.turns.volumes c.add_turn.new.volumes c.add_turn.ensures.volumes c.turns.invariant.sound first.1 first.2;
      plan = plan_goes_on c.args.totals.now c.args.threshold c.args.volumes.now c.turns.volumes c.add_turn.new.volumes c.turns.steps.items c.add_turn.new.steps.items
          c.in-Some.turn c.add_turn.ensures.volumes c.in_ok-add_turn.ensures.steps first.0 first.1 first.2 c.turns.invariant.plan;
    }

pub returns : goal.returns
returns c =
    let P : List Step → Type 0 = λ steps. IsPlanOf c.args.totals.now c.args.threshold c.args.volumes.now steps in
    subst P (append-nil c.turns.steps.items) (c.turns.invariant.plan [] c.in_default.ensures)
