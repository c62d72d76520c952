-- The plan over some rows.
use Rattle.std.specs.Prelude.{ℕ, ◌^◌, ◌<◌, ◌≤◌, ◌≡◌, List, [], ◌∷◌, ◌++◌, map, slice_index_or}
use Rattle.greedy_planner.specs.declared.volume.Step.{Step}
use Rattle.greedy_planner.specs.Greedy.{IsGreedyPlan}
use Rattle.plan_json.specs.declared.step.PlanStep.{PlanStep}
use Rattle.plan_json.specs.declared.plan.Plan.{Plan}
use Rattle.plan_json.specs.Id.{id_of}
use Rattle.plan_json.specs.Written.{plan_text}
use Rattle.plan_tool.specs.declared.options.Options.{Options}
use Rattle.plan_tool.specs.declared.row.Row.{Row}
use Rattle.plan_tool.specs.Rows.{uses_of}

-- a step goes between two of so many rows, with 1 to 2^54 bytes
pub record IsInLimits (rows : ℕ) (step : Step) : Type 0 where
  pub from : step.from < rows
  pub to : step.to < rows
  pub some : 1 ≤ step.bytes
  pub few : step.bytes ≤ 2 ^ 54

-- the UUID of a row, from 0
abbrev pub uuid_at : List Row → ℕ → List ℕ
uuid_at rows i = slice_index_or (map (λ row. row.uuid) rows) i []

-- a step between two rows, as a plan says it
abbrev pub plan_step : Options → List Row → Step → PlanStep
plan_step options rows step = record {
  from = uuid_at rows step.from;
  to = uuid_at rows step.to;
  bytes = step.bytes;
  bandwidth = options.bandwidth;
  tolerance = options.tolerance;
  max_errors = options.max_errors;
}

-- the plan of some steps
abbrev pub plan_of : Options → List Row → List Step → Plan
plan_of options rows steps = record {
  node = options.node;
  time_ms = options.time_ms;
  steps = map (plan_step options rows) steps;
}

-- the plan of the greedy run over the rows
pub record IsPlan (options : Options) (rows : List Row) (plan : Plan) : Type 0 where
  pub steps : List Step
  pub greedy : IsGreedyPlan (uses_of rows) options.threshold steps
  pub plan_is : plan ≡ plan_of options rows steps

-- the text of a plan and its id, each as a line
abbrev pub plan_lines : Plan → List ℕ
plan_lines plan = plan_text plan ++ 10 ∷ id_of (plan_text plan) ++ 10 ∷ []

-- what is written for the rows
pub record IsOutput (options : Options) (rows : List Row) (output : List ℕ) : Type 0 where
  pub plan : Plan
  pub is_plan : IsPlan options rows plan
  pub lines : output ≡ plan_lines plan
