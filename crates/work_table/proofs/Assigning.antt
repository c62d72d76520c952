-- The volumes of the steps of a plan on its node, and what changes leave of the assignments.
use Rattle.std.proofs.Common.{◌≡◌, ℕ, zero, suc, ◌+◌, ◌-◌, ◌≤◌, ◌<◌, Bool, true, false, cond, List, [], ◌∷◌, length, map, set, get_or, Some, refl, ap, sym, ◌∙◌, subst, arith}
use Rattle.std.specs.Prelude.{All, Contains, unwrap_or, nat_lt, if◌then◌else◌, slice_index_or}
use Rattle.std.specs.List.{position_from}
use Rattle.std.specs.Str.{bytes_eq}
use Rattle.std.proofs.lemmas.List.Elements.{All-nil, All-cons, All-head, All-tail}
use Rattle.std.proofs.lemmas.Slice.Eq.{bytes_eq-Decides}
use Rattle.plan_json.specs.declared.step.PlanStep.{PlanStep}
use Rattle.work_table.specs.declared.step_end.StepEnd.{StepEnd}
use Rattle.work_table.specs.declared.step_work.StepWork.{StepWork}
use Rattle.work_table.specs.declared.work.Work.{Work}
use Rattle.work_table.specs.declared.answers.TaskEnd.{TaskEnd}
use Rattle.work_table.specs.declared.answers.TaskEnd.TheVariants as task
use Rattle.work_table.specs.declared.step_end.StepEnd.TheVariants as end
use Rattle.throttle.specs.Formulas.{bytes_left, with_tolerance}
use Rattle.work_table.specs.declared.answers.Counted.{Counted}
use Rattle.work_table.specs.declared.answers.Counted.TheVariants.{Moved, Error, NoBlock}
use Rattle.work_table.specs.Steps.{place, with_end, fresh_steps}
use Rattle.work_table.specs.Changes.{with_counted}
use Rattle.work_table.specs.Answers.{task_for}
use Rattle.work_table.specs.Assigned.{Assigned, assigned, assignments, IsVolume, AreVolumes, HasStep, MovesBetween, IsOfWork}
use Rattle.work_table.proofs.Stepping.{no_step}
use Rattle.work_table.proofs.Tasks.{task_for-end}

-- a text of the list is found in it
found-from : (uuid : List ℕ) (m k : ℕ) (volumes : List (List ℕ)) → k < length volumes → get_or volumes k uuid ≡ uuid
    → (m ≤ unwrap_or (position_from (bytes_eq uuid) m volumes) 0) × (unwrap_or (position_from (bytes_eq uuid) m volumes) 0 < m + length volumes)
found-from uuid m k [] within is = absurd (omega (arith, within))
found-from uuid m k (v ∷ volumes) within is = by (bytes_eq uuid v) refl k within is (λ j h e. found-from uuid (m + 1) j volumes h e)
  where
    by : (b : Bool) → bytes_eq uuid v ≡ b → (i : ℕ) → i < length (v ∷ volumes) → get_or (v ∷ volumes) i uuid ≡ uuid
        → ((j : ℕ) → j < length volumes → get_or volumes j uuid ≡ uuid
        → (m + 1 ≤ unwrap_or (position_from (bytes_eq uuid) (m + 1) volumes) 0) × (unwrap_or (position_from (bytes_eq uuid) (m + 1) volumes) 0 < m + 1 + length volumes))
        → (m ≤ unwrap_or (cond (bytes_eq uuid v) (Some m) (position_from (bytes_eq uuid) (m + 1) volumes)) 0)
        × (unwrap_or (cond (bytes_eq uuid v) (Some m) (position_from (bytes_eq uuid) (m + 1) volumes)) 0 < m + length (v ∷ volumes))
    by true e i h same rest = rw e (omega arith, omega arith)
    by false e zero h same rest = let it = (bytes_eq-Decides uuid v).1 (sym same) in absurd (cc)
    by false e (suc j) h same rest = let r = rest j (omega (arith, h)) same in rw e (omega (arith, r.0), omega (arith, r.1))

pub place-within : (volumes : List (List ℕ)) (uuid : List ℕ) → Contains volumes uuid → IsVolume (length volumes) (place volumes uuid)
place-within volumes uuid has = let r = found-from uuid 1 has.0 volumes has.1 has.2 in (r.0, omega (arith, r.1))

-- the steps of a plan on the node have volumes of it
pub fresh-volumes : (volumes : List (List ℕ)) (ps : List PlanStep) → All (λ step. Contains volumes step.from × Contains volumes step.to) ps
    → All (AreVolumes (length volumes)) (map assigned (fresh_steps volumes ps))
fresh-volumes volumes [] on = All-nil (AreVolumes (length volumes))
fresh-volumes volumes (p ∷ ps) on =
    let head = All-head (λ step. Contains volumes step.from × Contains volumes step.to) p ps on in
    All-cons (AreVolumes (length volumes)) _ _ (place-within volumes p.from head.0, place-within volumes p.to head.1)
    (fresh-volumes volumes ps (All-tail (λ step. Contains volumes step.from × Contains volumes step.to) p ps on))

-- a change that leaves what a step is assigned
pub map-assigned : (f : StepWork → StepWork) → ((s : StepWork) → assigned (f s) ≡ assigned s) → (steps : List StepWork)
    → map assigned (map f steps) ≡ map assigned steps
map-assigned f keeps [] = refl
map-assigned f keeps (s ∷ steps) =
    ap (λ x. x ∷ map assigned (map f steps)) (keeps s) ∙ ap (λ xs. assigned s ∷ xs) (map-assigned f keeps steps)

pub set-assigned : (f : StepWork → StepWork) → ((s : StepWork) → assigned (f s) ≡ assigned s) → (steps : List StepWork) (i : ℕ) (d : StepWork)
    → map assigned (set steps i (f (get_or steps i d))) ≡ map assigned steps
set-assigned f keeps [] i d = refl
set-assigned f keeps (s ∷ steps) zero d = ap (λ x. x ∷ map assigned steps) (keeps s)
set-assigned f keeps (s ∷ steps) (suc i) d = ap (λ xs. assigned s ∷ xs) (set-assigned f keeps steps i d)

pub end-assigned : (end : StepEnd) (s : StepWork) → assigned (with_end end s) ≡ assigned s
end-assigned end s = refl

pub counted-assigned : (what : Counted) (s : StepWork) → assigned (with_counted what s) ≡ assigned s
counted-assigned (Moved bytes) s = refl
counted-assigned Error s = refl
counted-assigned NoBlock s = refl

-- the assignment of the step at a place
pub at-assigned : (steps : List StepWork) (i : ℕ) (d : StepWork) (e : Assigned) → i < length steps
    → get_or (map assigned steps) i e ≡ assigned (get_or steps i d)
at-assigned [] i d e within = absurd (omega (arith, within))
at-assigned (s ∷ steps) zero d e within = refl
at-assigned (s ∷ steps) (suc i) d e within = at-assigned steps i d e (omega (arith, within))

-- the step at a place has its number
pub moves-at : (work : Work) (i : ℕ) → i < length work.steps → MovesBetween work (i + 1) (get_or work.steps i no_step).from (get_or work.steps i no_step).to
moves-at work i within d =
    let same : i + 1 - 1 ≡ i = omega arith in
    let e : slice_index_or (assignments work) (i + 1 - 1) d ≡ assigned (get_or work.steps i no_step) =
    ap (λ n. get_or (map assigned work.steps) n d) same ∙ at-assigned work.steps i no_step d within
    in
    (ap (λ (x : Assigned). x.from) e, ap (λ (x : Assigned). x.to) e)

-- what is told for a step of the work
pub told-of-work : (work : Work) (k : ℕ) (step : StepWork) (p : PlanStep) (answer : TaskEnd) → answer ≡ task_for work.plan_no k step p
    → HasStep work k → MovesBetween work k step.from step.to → IsOfWork work answer
told-of-work work k step p task.Idle is has moves = tt
told-of-work work k step p (task.StepEnd j x) is has moves = subst (λ n. HasStep work n) (sym (task_for-end work.plan_no k step p j x (sym is))) has
told-of-work work k step p (task.Task n j from to left tolerance bandwidth) is has moves =
    by (nat_lt step.planned (with_tolerance step.copied p.tolerance)) (nat_lt p.max_errors step.errors) is
  where
    by : (a b : Bool)
        → task.Task n j from to left tolerance bandwidth ≡ (if a then task.StepEnd k end.Done else if b then task.StepEnd k end.ErrorLimit
        else task.Task work.plan_no k step.from step.to (bytes_left step.planned step.copied) p.tolerance p.bandwidth)
        → (n ≡ work.plan_no) × HasStep work j × MovesBetween work j from to
    by true b h = absurd (cc)
    by false true h = absurd (cc)
    by false false h =
        let number : n ≡ work.plan_no = cc in
        let same : j ≡ k = cc in
        let from_is : from ≡ step.from = cc in
        let to_is : to ≡ step.to = cc in
        (number, subst (λ m. HasStep work m) (sym same) has, rw (same, from_is, to_is) moves)
