-- What is written for a plan has no float, nests little, and reads as the plan.
use Rattle.std.proofs.Common.{◌≡◌, ℕ, ◌||◌, ◌&&◌, ◌≤◌, ◌^◌, nat_le, Bool, true, false, Some, None, Ok, List, [], ◌∷◌, length, map, refl, ap, ◌∙◌, lit≤, arith, rules}
use Rattle.std.proofs.lemmas.List.Elements.{All-head, All-tail}
use Rattle.std.specs.Prelude.{if◌then◌else◌, All}
use Rattle.serde_json.specs.Data.{depth, items_depth, number, unsigned}
use Rattle.serde_json.specs.View.{items_of}
use Rattle.serde_json.specs.Written.{has_float, items_have_float}
use Rattle.serde_json.proofs.OnLiterals.{serde_json_on_literals}
use Rattle.plan_json.specs.declared.plan.Plan.{Plan}
use Rattle.plan_json.specs.declared.step.PlanStep.{PlanStep}
use Rattle.plan_json.specs.declared.fault.PlanMember.TheVariants.{VolumeSetPlans}
use Rattle.plan_json.specs.Forms.{IsStepInForm, IsInForm}
use Rattle.plan_json.specs.Reading.{within, number_or}
use Rattle.plan_json.specs.Plans.{or_malformed, ◌>>=◌, step_of, steps_of, item_count, are_objects, step_values_in, plan_of}
use Rattle.plan_json.specs.Written.{step_value, plan_value}

-- steps have no float
pub items_have_float-steps : (steps : List PlanStep) → items_have_float (items_of (map step_value steps)) ≡ false
items_have_float-steps [] = refl
items_have_float-steps (step ∷ steps) = items_have_float-steps steps

-- nor has a plan
pub has_float-plan_value : (plan : Plan) → has_float (plan_value plan) ≡ false
has_float-plan_value plan = ap (λ b. b || false) (items_have_float-steps plan.steps)

-- steps nest twice
pub items_depth-steps : (steps : List PlanStep) → items_depth (items_of (map step_value steps)) ≤ 2
items_depth-steps [] = lit≤ tt
items_depth-steps (step ∷ steps) = let e = items_depth-steps steps in omega (arith, e)

pub depth-plan_value : (plan : Plan) → depth (plan_value plan) ≤ 127
depth-plan_value plan = let e = items_depth-steps plan.steps in omega (arith, e)

within-in_range : (low high n : ℕ) → low ≤ n → n ≤ high → within low high n ≡ Some n
within-in_range low high n over under = search (rules, over, under)

-- a member that isn't 0 reads as it is written
number_or-number : (default high n : ℕ) → 1 ≤ n → n ≤ high → number_or default high (Some (number (unsigned n))) ≡ Some n
number_or-number default high n some under = search (rules, some, under)

-- what is written for a step in form reads as the step
pub step_of-step_value : (step : PlanStep) → IsStepInForm step → step_of (step_value step) ≡ Ok step
unfolding serde_json_on_literals
step_of-step_value step form =
    let bytes = within-in_range 1 (2 ^ 54) step.bytes form.some_bytes form.few_bytes in
    let bandwidth = number_or-number 10 1048576 step.bandwidth form.some_bandwidth form.low_bandwidth in
    let tolerance = number_or-number 10 100 step.tolerance form.some_tolerance form.low_tolerance in
    let max_errors = number_or-number 5 4294967295 step.max_errors form.some_errors (omega arith) in
    rw (bytes, bandwidth, tolerance, max_errors)

pub steps_of-steps : (steps : List PlanStep) → All IsStepInForm steps → steps_of (items_of (map step_value steps)) ≡ Ok steps
unfolding serde_json_on_literals
steps_of-steps [] form = refl
steps_of-steps (step ∷ steps) form =
    ap (λ r. r >>= (λ s. steps_of (items_of (map step_value steps)) >>= (λ rest. Ok (s ∷ rest)))) (step_of-step_value step (All-head IsStepInForm step steps form))
    ∙ ap (λ r. r >>= (λ rest. Ok (step ∷ rest))) (steps_of-steps steps (All-tail IsStepInForm step steps form))

pub item_count-steps : (steps : List PlanStep) → item_count (items_of (map step_value steps)) ≡ length steps
item_count-steps [] = refl
item_count-steps (step ∷ steps) = let e = item_count-steps steps in omega (arith, e)

pub are_objects-steps : (steps : List PlanStep) → are_objects (items_of (map step_value steps)) ≡ true
are_objects-steps [] = refl
are_objects-steps (step ∷ steps) = are_objects-steps steps

-- what is written for a plan in form reads as the plan
pub plan_of-plan_value : (plan : Plan) → IsInForm plan → plan_of (plan_value plan) ≡ Ok plan
unfolding serde_json_on_literals
plan_of-plan_value plan form =
    let items = items_of (map step_value plan.steps) in
    let few : nat_le (item_count items) 1024 ≡ true = ap (λ n. nat_le n 1024) (item_count-steps plan.steps) ∙ search (rules, form.few_steps) in
    let taken : step_values_in items ≡ Some items =
    ap (λ (b : Bool). if b && are_objects items then Some items else None) few
    ∙ ap (λ (b : Bool). if b then Some items else None) (are_objects-steps plan.steps)
    in
    ap (λ o. or_malformed VolumeSetPlans o >>= (λ values. steps_of values >>= (λ steps. Ok (record { node = plan.node; time_ms = plan.time_ms; steps = steps })))) taken
    ∙ ap (λ r. r >>= (λ steps. Ok (record { node = plan.node; time_ms = plan.time_ms; steps = steps }))) (steps_of-steps plan.steps form.steps_in_form)
