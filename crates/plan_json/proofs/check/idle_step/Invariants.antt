use Rattle.std.proofs.Common.{◌≡◌, ◌+◌, drop}
use Rattle.std.specs.List.{position_from}
use Rattle.std.specs.Str.{bytes_eq}
use Rattle.plan_json.specs.Checks.{idle_step}
use Rattle.plan_json.proofs.check.idle_step.Given as goal

-- the first idle step is that of the steps that are left, which are counted on
abbrev pub invariant-loop-step : goal.invariant-loop-step
invariant-loop-step l =
    (l.number ≡ l.step-index)
    × (idle_step l.steps ≡ position_from (λ step. bytes_eq step.from step.to) (l.number + 1) (drop l.step-index l.steps))
