use Rattle.std.proofs.Common.{◌≡◌, ◌++◌, ◌∷◌, take, string_bytes}
use Rattle.std.specs.List.{flat_map}
use Rattle.script_lang.specs.PlanReply.{plan_line_text, step_row_text}
use Rattle.script_lang.proofs.reply.plan.write_plan.Given as goal

abbrev pub invariant-loop-step : goal.invariant-loop-step
invariant-loop-step l =
    string_bytes l.lines ≡ plan_line_text l.fn.number l.fn.state l.fn.id ++ flat_map (λ step. 10 ∷ step_row_text step) (take l.step-index l.steps)
