-- How far the submitted plan is
use Rattle.std.specs.Prelude.{ℕ, List, codes}
use Rattle.script_lang.specs.declared.reply.plan_state.PlanState.{PlanState}
use Rattle.script_lang.specs.declared.reply.plan_state.PlanState.TheVariants.{NoPlan, UnderProgress, Done, Cancelled}

-- how it is printed
abbrev pub plan_state_text : PlanState → List ℕ
plan_state_text NoPlan = codes "NO_PLAN"
plan_state_text UnderProgress = codes "PLAN_UNDER_PROGRESS"
plan_state_text Done = codes "PLAN_DONE"
plan_state_text Cancelled = codes "PLAN_CANCELLED"
