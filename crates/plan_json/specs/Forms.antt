-- When a plan is in form.
use Rattle.std.specs.Prelude.{◌^◌, ◌≤◌, ◌<◌, All, length}
use Rattle.plan_json.specs.declared.step.PlanStep.{PlanStep}
use Rattle.plan_json.specs.declared.plan.Plan.{Plan}

-- the numbers of a step are in their ranges, none of them left at 0
pub record IsStepInForm (step : PlanStep) : Type 0 where
  pub some_bytes : 1 ≤ step.bytes
  pub few_bytes : step.bytes ≤ 2 ^ 54
  pub some_bandwidth : 1 ≤ step.bandwidth
  pub low_bandwidth : step.bandwidth ≤ 1048576
  pub some_tolerance : 1 ≤ step.tolerance
  pub low_tolerance : step.tolerance ≤ 100
  pub some_errors : 1 ≤ step.max_errors
  pub few_errors : step.max_errors < 2 ^ 32

-- at most 1,024 steps, each of them in form
pub record IsInForm (plan : Plan) : Type 0 where
  pub few_steps : length plan.steps ≤ 1024
  pub steps_in_form : All IsStepInForm plan.steps
