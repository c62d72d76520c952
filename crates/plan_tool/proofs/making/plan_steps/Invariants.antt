use Rattle.std.proofs.Common.{◌≡◌, map, take}
use Rattle.std.specs.Prelude.{All}
use Rattle.plan_json.specs.Forms.{IsStepInForm}
use Rattle.plan_tool.specs.Plans.{plan_step}
use Rattle.plan_tool.proofs.making.plan_steps.Given as goal

-- the steps so far, as the plan says them
abbrev pub invariant-loop-step : goal.invariant-loop-step
invariant-loop-step l = (l.made.items ≡ map (plan_step l.options l.rows) (take l.step-index l.steps)) × All IsStepInForm l.made.items
