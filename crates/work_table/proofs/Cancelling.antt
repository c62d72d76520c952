-- A plan's state is PLAN_CANCELLED exactly where a cancel found a step of it without an end.
use Rattle.std.proofs.Common.{◌≡◌, ℕ, ◌+◌, ◌==◌, Bool, true, false, List, [], ◌∷◌, ◌++◌, map, Option, Some, None, Ok, Err, refl, ap, sym, ◌∙◌, append_assoc}
use Rattle.std.specs.Prelude.{◌||◌, ◌&&◌, nat_lt, if◌then◌else◌}
use Rattle.std.specs.List.{list_any, count_by}
use Rattle.throttle.specs.Formulas.{bytes_left, with_tolerance}
use Rattle.plan_json.specs.declared.step.PlanStep.{PlanStep}
use Rattle.work_table.specs.declared.answers.Counted.TheVariants as what
use Rattle.work_table.specs.declared.answers.CountEnd.TheVariants as count
use Rattle.work_table.specs.declared.answers.TaskEnd.TheVariants as task
use Rattle.work_table.specs.declared.plan_state.PlanState.TheVariants as state
use Rattle.work_table.specs.declared.step_end.StepEnd.{StepEnd}
use Rattle.work_table.specs.declared.step_end.StepEnd.TheVariants.{Open, Done, Cancelled, ErrorLimit, NoBlock}
use Rattle.work_table.specs.declared.step_work.StepWork.{StepWork}
use Rattle.work_table.specs.declared.work.Work.{Work}
use Rattle.work_table.specs.declared.entry.TableEntry.{TableEntry}
use Rattle.work_table.specs.declared.entry.TableEntry.TheVariants.{Submit, Cancel, Task, Count}
use Rattle.work_table.specs.Steps.{unless_open, is_open_end, is_cancelled_end, is_open, is_cancelled, with_end}
use Rattle.work_table.specs.Entries.{is_accepted, end_given}
use Rattle.work_table.specs.History.{Accepted, accepted, or_else, latest, first_end, steps_after, state_of, work_at, work, planned_steps}
use Rattle.work_table.specs.Answers.{task_for, task_from}
use Rattle.work_table.specs.Standing.{IsAnswered, AllAnswered}
use Rattle.work_table.specs.Cancelling.{is_cancel, has_open, finds_open, was_cancelled, CancelledWhileOpen}
use Rattle.work_table.proofs.Snoc.{first_end-snoc}
use Rattle.work_table.proofs.Stepping.{step-ended, steps-map}

-- truth values
or-false : (a : Bool) → a ≡ a || false
or-false true = refl
or-false false = refl

or-assoc : (a b c : Bool) → (a || b) || c ≡ a || (b || c)
or-assoc true b c = refl
or-assoc false b c = refl

or-swap : (a b c d : Bool) → (a || b) || (c || d) ≡ (a || c) || (b || d)
or-swap true b c d = refl
or-swap false true true d = refl
or-swap false true false d = refl
or-swap false false c d = refl

or-left : (a b : Bool) → a || b ≡ false → a ≡ false
or-left true b h = h
or-left false b h = refl

or-right : (a b : Bool) → a || b ≡ false → b ≡ false
or-right true b h = absurd (cc)
or-right false b h = h

both-false : (a b : Bool) → a ≡ false → b ≡ false → a || b ≡ false
both-false a b e f = ap (λ x. x || b) e ∙ f

-- ends
cancelled-kept : (x y : StepEnd) → is_cancelled_end y ≡ false → is_cancelled_end (unless_open x y) ≡ is_cancelled_end x
cancelled-kept Open y h = h
cancelled-kept Done y h = refl
cancelled-kept Cancelled y h = refl
cancelled-kept ErrorLimit y h = refl
cancelled-kept NoBlock y h = refl

cancelled-given : (x : StepEnd) → is_cancelled_end (unless_open x Cancelled) ≡ is_cancelled_end x || is_open_end x
cancelled-given Open = refl
cancelled-given Done = refl
cancelled-given Cancelled = refl
cancelled-given ErrorLimit = refl
cancelled-given NoBlock = refl

ended-by_cancel : (x : StepEnd) → is_open_end (unless_open x Cancelled) ≡ false
ended-by_cancel Open = refl
ended-by_cancel Done = refl
ended-by_cancel Cancelled = refl
ended-by_cancel ErrorLimit = refl
ended-by_cancel NoBlock = refl

ended-stays : (x y : StepEnd) → is_open_end x ≡ false → is_open_end (unless_open x y) ≡ false
ended-stays Open y h = absurd (cc)
ended-stays Done y h = refl
ended-stays Cancelled y h = refl
ended-stays ErrorLimit y h = refl
ended-stays NoBlock y h = refl

-- steps that a cancel ends
any-cancelled-map : (steps : List StepWork) → list_any is_cancelled (map (with_end Cancelled) steps) ≡ list_any is_cancelled steps || list_any is_open steps
any-cancelled-map [] = refl
any-cancelled-map (s ∷ steps) =
    ap (λ b. b || list_any is_cancelled (map (with_end Cancelled) steps)) (cancelled-given s.end)
    ∙ ap (λ b. (is_cancelled s || is_open s) || b) (any-cancelled-map steps)
    ∙ or-swap (is_cancelled s) (is_open s) (list_any is_cancelled steps) (list_any is_open steps)

any-open-map : (steps : List StepWork) → list_any is_open (map (with_end Cancelled) steps) ≡ false
any-open-map [] = refl
any-open-map (s ∷ steps) = both-false _ _ (ended-by_cancel s.end) (any-open-map steps)

cancel-map : (volumes : List (List ℕ)) (es : List TableEntry) (id : List ℕ) (ps : List PlanStep)
    → steps_after volumes (es ++ Cancel id (Ok tt) ∷ []) 1 ps ≡ map (with_end Cancelled) (steps_after volumes es 1 ps)
cancel-map volumes es id ps =
    steps-map (with_end Cancelled) (Cancel id (Ok tt)) (λ k vs before p. step-ended vs before (Cancel id (Ok tt)) k p Cancelled refl refl refl refl) volumes es 1 ps

-- an entry that gives no step the end of a cancel, unless it is one
abbrev pub GivesRightly : TableEntry → Type 0
GivesRightly e = (k : ℕ) → is_cancel e ≡ false → is_cancelled_end (end_given k e) ≡ false

any-cancelled-kept : (volumes : List (List ℕ)) (es : List TableEntry) (e : TableEntry) → ((k : ℕ) → is_cancelled_end (end_given k e) ≡ false)
    → (k : ℕ) (ps : List PlanStep) → list_any is_cancelled (steps_after volumes (es ++ e ∷ []) k ps) ≡ list_any is_cancelled (steps_after volumes es k ps)
any-cancelled-kept volumes es e gives k [] = refl
any-cancelled-kept volumes es e gives k (p ∷ ps) =
    ap (λ b. b || list_any is_cancelled (steps_after volumes (es ++ e ∷ []) (k + 1) ps))
    (ap is_cancelled_end (first_end-snoc k es e (end_given k e) refl) ∙ cancelled-kept (first_end k es) (end_given k e) (gives k))
    ∙ ap (λ b. is_cancelled_end (first_end k es) || b) (any-cancelled-kept volumes es e gives (k + 1) ps)

any-open-stays : (volumes : List (List ℕ)) (es : List TableEntry) (e : TableEntry) (k : ℕ) (ps : List PlanStep)
    → list_any is_open (steps_after volumes es k ps) ≡ false → list_any is_open (steps_after volumes (es ++ e ∷ []) k ps) ≡ false
any-open-stays volumes es e k [] none = refl
any-open-stays volumes es e k (p ∷ ps) none =
    let head : is_open_end (first_end k es) ≡ false = or-left _ _ none in
    both-false _ _ (ap is_open_end (first_end-snoc k es e (end_given k e) refl) ∙ ended-stays (first_end k es) (end_given k e) head)
    (any-open-stays volumes es e (k + 1) ps (or-right (is_open_end (first_end k es)) _ none))

-- after these entries a step of the plan was ended by a cancel
abbrev pub has_cancelled : Accepted → List TableEntry → Bool
has_cancelled a entries = list_any is_cancelled (steps_after a.volumes entries 1 a.plan.steps)

-- one entry more
cancelled-snoc : (a : Accepted) (es : List TableEntry) (e : TableEntry) → GivesRightly e
    → has_cancelled a (es ++ e ∷ []) ≡ has_cancelled a es || (is_cancel e && has_open a es)
cancelled-snoc a es (Submit plan id volumes answer) gives =
    any-cancelled-kept a.volumes es (Submit plan id volumes answer) (λ k. gives k refl) 1 a.plan.steps ∙ or-false (has_cancelled a es)
cancelled-snoc a es (Cancel id (Ok done)) gives = ap (list_any is_cancelled) (cancel-map a.volumes es id a.plan.steps) ∙ any-cancelled-map (steps_after a.volumes es 1 a.plan.steps)
cancelled-snoc a es (Cancel id (Err fault)) gives =
    any-cancelled-kept a.volumes es (Cancel id (Err fault)) (λ k. gives k refl) 1 a.plan.steps ∙ or-false (has_cancelled a es)
cancelled-snoc a es (Task answer) gives = any-cancelled-kept a.volumes es (Task answer) (λ k. gives k refl) 1 a.plan.steps ∙ or-false (has_cancelled a es)
cancelled-snoc a es (Count plan_no step came answer) gives =
    any-cancelled-kept a.volumes es (Count plan_no step came answer) (λ k. gives k refl) 1 a.plan.steps ∙ or-false (has_cancelled a es)

open-snoc : (a : Accepted) (es : List TableEntry) (e : TableEntry) → (has_cancelled a es ≡ true → has_open a es ≡ false) → GivesRightly e
    → has_cancelled a (es ++ e ∷ []) ≡ true → has_open a (es ++ e ∷ []) ≡ false
open-snoc a es (Cancel id (Ok done)) ended gives is = ap (list_any is_open) (cancel-map a.volumes es id a.plan.steps) ∙ any-open-map (steps_after a.volumes es 1 a.plan.steps)
open-snoc a es (Cancel id (Err fault)) ended gives is =
    any-open-stays a.volumes es (Cancel id (Err fault)) 1 a.plan.steps (ended (sym (any-cancelled-kept a.volumes es (Cancel id (Err fault)) (λ k. gives k refl) 1 a.plan.steps) ∙ is))
open-snoc a es (Submit plan id volumes answer) ended gives is =
    any-open-stays a.volumes es (Submit plan id volumes answer) 1 a.plan.steps
    (ended (sym (any-cancelled-kept a.volumes es (Submit plan id volumes answer) (λ k. gives k refl) 1 a.plan.steps) ∙ is))
open-snoc a es (Task answer) ended gives is =
    any-open-stays a.volumes es (Task answer) 1 a.plan.steps (ended (sym (any-cancelled-kept a.volumes es (Task answer) (λ k. gives k refl) 1 a.plan.steps) ∙ is))
open-snoc a es (Count plan_no step came answer) ended gives is =
    any-open-stays a.volumes es (Count plan_no step came answer) 1 a.plan.steps
    (ended (sym (any-cancelled-kept a.volumes es (Count plan_no step came answer) (λ k. gives k refl) 1 a.plan.steps) ∙ is))

-- each of the entries gives ends rightly
abbrev pub AllGiveRightly : List TableEntry → Type 0
AllGiveRightly [] = Unit {0}
AllGiveRightly (e ∷ later) = GivesRightly e × AllGiveRightly later

append-nil : (es : List TableEntry) → es ++ [] ≡ es
append-nil [] = refl
append-nil (e ∷ es) = ap (λ l. e ∷ l) (append-nil es)

-- the entries after `before`
cancelled-after : (a : Accepted) (before later : List TableEntry) → AllGiveRightly later
    → has_cancelled a (before ++ later) ≡ has_cancelled a before || finds_open a before later
cancelled-after a before [] all = ap (has_cancelled a) (append-nil before) ∙ or-false (has_cancelled a before)
cancelled-after a before (e ∷ later) all =
    ap (has_cancelled a) (sym (append_assoc before (e ∷ []) later))
    ∙ cancelled-after a (before ++ e ∷ []) later all.1
    ∙ ap (λ b. b || finds_open a (before ++ e ∷ []) later) (cancelled-snoc a before e all.0)
    ∙ or-assoc (has_cancelled a before) (is_cancel e && has_open a before) (finds_open a (before ++ e ∷ []) later)

open-after : (a : Accepted) (before later : List TableEntry) → AllGiveRightly later → (has_cancelled a before ≡ true → has_open a before ≡ false)
    → has_cancelled a (before ++ later) ≡ true → has_open a (before ++ later) ≡ false
open-after a before [] all ended is =
    ap (has_open a) (append-nil before) ∙ ended (sym (ap (has_cancelled a) (append-nil before)) ∙ is)
open-after a before (e ∷ later) all ended is =
    let assoc : (before ++ e ∷ []) ++ later ≡ before ++ e ∷ later = append_assoc before (e ∷ []) later in
    ap (has_open a) (sym assoc)
    ∙ open-after a (before ++ e ∷ []) later all.1 (open-snoc a before e ended all.0) (ap (has_cancelled a) assoc ∙ is)

-- fresh steps have no end
fresh-not_cancelled : (volumes : List (List ℕ)) (k : ℕ) (ps : List PlanStep) → list_any is_cancelled (steps_after volumes [] k ps) ≡ false
fresh-not_cancelled volumes k [] = refl
fresh-not_cancelled volumes k (p ∷ ps) = fresh-not_cancelled volumes (k + 1) ps

-- a task ends no step by a cancel
end-task_for : (n k : ℕ) (step : StepWork) (p : PlanStep) (j : ℕ) (x : StepEnd) → task_for n k step p ≡ task.StepEnd j x → is_cancelled_end x ≡ false
end-task_for n k step p j x is = by (nat_lt step.planned (with_tolerance step.copied p.tolerance)) (nat_lt p.max_errors step.errors) is
  where
    by : (a b : Bool)
        → (if a then task.StepEnd k Done else if b then task.StepEnd k ErrorLimit
        else task.Task n k step.from step.to (bytes_left step.planned step.copied) p.tolerance p.bandwidth) ≡ task.StepEnd j x → is_cancelled_end x ≡ false
    by true b h = let e : Done ≡ x = cc in ap is_cancelled_end (sym e)
    by false true h = let e : ErrorLimit ≡ x = cc in ap is_cancelled_end (sym e)
    by false false h = absurd (cc)

end-task_from : (n k : ℕ) (steps : List StepWork) (ps : List PlanStep) (j : ℕ) (x : StepEnd) → task_from n k steps ps ≡ task.StepEnd j x → is_cancelled_end x ≡ false
end-task_from n k [] ps j x is = absurd (cc)
end-task_from n k (step ∷ steps) [] j x is = absurd (cc)
end-task_from n k (step ∷ steps) (p ∷ ps) j x is = by (is_open step) is
    (λ h. end-task_for n k step p j x h) (λ h. end-task_from n (k + 1) steps ps j x h)
  where
    by : (b : Bool) → (if b then task_for n k step p else task_from n (k + 1) steps ps) ≡ task.StepEnd j x
        → (task_for n k step p ≡ task.StepEnd j x → is_cancelled_end x ≡ false)
        → (task_from n (k + 1) steps ps ≡ task.StepEnd j x → is_cancelled_end x ≡ false) → is_cancelled_end x ≡ false
    by true h here rest = here h
    by false h here rest = rest h

chosen-not_cancelled : (b : Bool) (x : StepEnd) → is_cancelled_end x ≡ false → is_cancelled_end (if b then x else Open) ≡ false
chosen-not_cancelled true x h = h
chosen-not_cancelled false x h = refl

gives-rightly : (before : List TableEntry) (e : TableEntry) → IsAnswered before e → GivesRightly e
gives-rightly before (Submit plan id volumes answer) is = λ k not. refl
gives-rightly before (Cancel id (Ok done)) is = λ k not. absurd (cc)
gives-rightly before (Cancel id (Err fault)) is = λ k not. refl
gives-rightly before (Task task.Idle) is = λ k not. refl
gives-rightly before (Task (task.Task n j from to left tolerance bandwidth)) is = λ k not. refl
gives-rightly before (Task (task.StepEnd j x)) is = λ k not. chosen-not_cancelled (j == k) x (end-task_from (work before).plan_no 1 (work before).steps (planned_steps (latest before)) j x (sym is))
gives-rightly before (Count n j (what.Moved bytes) answer) is = λ k not. refl
gives-rightly before (Count n j what.Error answer) is = λ k not. refl
gives-rightly before (Count n j what.NoBlock count.Counted) is = λ k not. chosen-not_cancelled (j == k) NoBlock refl
gives-rightly before (Count n j what.NoBlock (count.Stale want have)) is = λ k not. refl

all-rightly : (before es : List TableEntry) → AllAnswered before es → AllGiveRightly es
all-rightly before [] all = tt
all-rightly before (e ∷ es) all = (gives-rightly before e all.0, all-rightly (before ++ e ∷ []) es all.1)

-- the entries after the plan that was accepted last are some of these
abbrev pub AllLater : Option Accepted → Type 0
AllLater None = Unit {0}
AllLater (Some a) = AllGiveRightly a.later

later-accepted : (e : TableEntry) (es : List TableEntry) → AllGiveRightly es → AllLater (accepted e es)
later-accepted (Submit plan id volumes (Ok done)) es all = all
later-accepted (Submit plan id volumes (Err fault)) es all = tt
later-accepted (Cancel id answer) es all = tt
later-accepted (Task answer) es all = tt
later-accepted (Count n j came answer) es all = tt

later-either : (o p : Option Accepted) → AllLater o → AllLater p → AllLater (or_else o p)
later-either (Some a) p here there = here
later-either None p here there = there

later-latest : (es : List TableEntry) → AllGiveRightly es → AllLater (latest es)
later-latest [] all = tt
later-latest (e ∷ es) all = later-either (latest es) (accepted e es) (later-latest es all.1) (later-accepted e es all.1)

-- the state that steps say
says-cancelled : (steps : List StepWork) → (list_any is_cancelled steps ≡ true → list_any is_open steps ≡ false)
    → (state_of steps ≡ state.Cancelled → list_any is_cancelled steps ≡ true) × (list_any is_cancelled steps ≡ true → state_of steps ≡ state.Cancelled)
says-cancelled steps ended = (
  λ is. from (list_any is_open steps) (list_any is_cancelled steps) is,
  λ any. ap (λ (b : Bool). if b then state.UnderProgress else if list_any is_cancelled steps then state.Cancelled else state.Done) (ended any)
      ∙ ap (λ (b : Bool). if b then state.Cancelled else state.Done) any,
)
  where
    from : (b c : Bool) → (if b then state.UnderProgress else if c then state.Cancelled else state.Done) ≡ state.Cancelled → c ≡ true
    from true c h = absurd (cc)
    from false true h = refl
    from false false h = absurd (cc)

law-at : (n : ℕ) (o : Option Accepted) → AllLater o
    → ((work_at n o).state ≡ state.Cancelled → was_cancelled o ≡ true) × (was_cancelled o ≡ true → (work_at n o).state ≡ state.Cancelled)
law-at n None all = (λ is. absurd (cc), λ is. absurd (cc))
law-at n (Some a) all =
    let fresh : has_cancelled a [] ≡ false = fresh-not_cancelled a.volumes 1 a.plan.steps in
    let found : has_cancelled a a.later ≡ finds_open a [] a.later =
    cancelled-after a [] a.later all ∙ ap (λ b. b || finds_open a [] a.later) fresh
    in
    let ended : has_cancelled a a.later ≡ true → has_open a a.later ≡ false =
    open-after a [] a.later all (λ is. let clash : false ≡ true = sym fresh ∙ is in absurd (cc))
    in
    let says = says-cancelled (steps_after a.volumes a.later 1 a.plan.steps) ended in
    (λ is. sym found ∙ says.0 is, λ is. says.1 (found ∙ is))

pub cancelled_while_open : CancelledWhileOpen
cancelled_while_open table history stands =
    let all = later-latest history (all-rightly [] history stands.answered) in
    let law = law-at (count_by is_accepted history) (latest history) all in
    (λ is. law.0 (ap (λ (w : Work). w.state) (sym stands.work_is) ∙ is), λ is. ap (λ (w : Work). w.state) stands.work_is ∙ law.1 is)
