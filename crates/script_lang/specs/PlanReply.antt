-- The submitted plan.
use Rattle.std.specs.Prelude.{ℕ, List, ◌∷◌, ◌++◌, codes, Option, Some, None}
use Rattle.std.specs.List.{flat_map}
use Rattle.script_lang.specs.ReplyWords.{and_number, and_text}
use Rattle.script_lang.specs.PlanState.{plan_state_text}
use Rattle.script_lang.specs.StepEnd.{step_end_text}
use Rattle.script_lang.specs.declared.reply.plan_state.PlanState.{PlanState}
use Rattle.script_lang.specs.declared.reply.plan.StepRow.{StepRow}

-- the volumes of a step
abbrev pub step_volumes_text : StepRow → List ℕ
step_volumes_text row = and_number (and_number (and_number (codes "step") row.k) row.from) row.to

-- the line of a step
abbrev pub step_row_text : StepRow → List ℕ
step_row_text row = and_text (and_number (and_number (and_number (and_number (step_volumes_text row) row.planned) row.copied) row.blocks) row.errors) (step_end_text row.end)

-- an id, or `-`
abbrev pub plan_id_text : Option (List ℕ) → List ℕ
plan_id_text None = codes "-"
plan_id_text (Some id) = id

-- the first line
abbrev pub plan_line_text : ℕ → PlanState → Option (List ℕ) → List ℕ
plan_line_text number state id = and_text (and_text (and_number (codes "plan") number) (plan_state_text state)) (plan_id_text id)

-- its first line, and then the line of each step
abbrev pub plan_text : ℕ → PlanState → Option (List ℕ) → List StepRow → List ℕ
plan_text number state id steps = plan_line_text number state id ++ flat_map (λ step. 10 ∷ step_row_text step) steps
