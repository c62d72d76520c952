-- A table that stood for a history stands for it with one entry more.
use Rattle.std.proofs.Common.{◌≡◌, ◌≢◌, ◌⊎◌, ℕ, ◌+◌, ◌-◌, ◌≤◌, false, List, [], ◌∷◌, ◌++◌, length, map, set, get_or, inr, Option, Some, None, Result, Ok, Err, refl, ap, sym, subst, ◌∙◌, arith, rules, append_assoc}
use Rattle.std.specs.Prelude.{◌==◌, if◌then◌else◌, option_map}
use Rattle.std.specs.List.{count_by}
use Rattle.plan_json.specs.declared.plan.Plan.{Plan}
use Rattle.work_table.specs.declared.answers.SubmitFault.{SubmitFault}
use Rattle.work_table.specs.declared.answers.SubmitFault.TheVariants.{Memory}
use Rattle.work_table.specs.declared.answers.NoSuchPlan.{NoSuchPlan}
use Rattle.work_table.specs.declared.answers.TaskEnd.{TaskEnd}
use Rattle.work_table.specs.declared.answers.TaskEnd.TheVariants as task
use Rattle.work_table.specs.declared.answers.Counted.{Counted}
use Rattle.work_table.specs.declared.answers.Counted.TheVariants as what
use Rattle.work_table.specs.declared.answers.CountEnd.TheVariants as count
use Rattle.work_table.specs.declared.step_end.StepEnd.{StepEnd}
use Rattle.work_table.specs.declared.step_end.StepEnd.TheVariants.{Open, Cancelled}
use Rattle.work_table.specs.declared.step_end.StepEnd.TheVariants as noblock
use Rattle.work_table.specs.declared.step_work.StepWork.{StepWork}
use Rattle.work_table.specs.declared.work.Work.{Work}
use Rattle.work_table.specs.declared.entry.TableEntry.{TableEntry}
use Rattle.work_table.specs.declared.entry.TableEntry.TheVariants.{Submit, Cancel, Task, Count}
use Rattle.work_table.specs.Steps.{with_end, fresh_steps}
use Rattle.work_table.specs.Entries.{is_accepted, end_given}
use Rattle.work_table.specs.History.{Accepted, accepted, latest, work, work_at, work_of, planned_steps}
use Rattle.work_table.specs.Answers.{submit_answer, cancel_answer, task_answer, count_answer}
use Rattle.work_table.specs.Standing.{TableView, IsAnswered, AllAnswered, Adds}
use Rattle.work_table.specs.Changes.{with_counted, with_steps}
use Rattle.work_table.proofs.Snoc.{count-same, count-more, extended, latest-same, latest-new}
use Rattle.work_table.proofs.Stepping.{LeavesStep, Makes, step-moved, step-erred, step-ended, steps-map, steps-same, steps-set, length-steps_after, steps-fresh}

append-nil : (es : List TableEntry) → es ++ [] ≡ es
append-nil [] = refl
append-nil (e ∷ es) = ap (λ l. e ∷ l) (append-nil es)

AllAnswered-snoc : (before es : List TableEntry) (e : TableEntry) → AllAnswered before es → IsAnswered (before ++ es) e → AllAnswered before (es ++ e ∷ [])
AllAnswered-snoc before [] e all this = (subst (λ l. IsAnswered l e) (append-nil before) this, tt)
AllAnswered-snoc before (x ∷ es) e all this =
    (all.0, AllAnswered-snoc (before ++ x ∷ []) es e all.1 (subst (λ l. IsAnswered l e) (sym (append_assoc before (x ∷ []) es)) this))

-- the entry accepts no plan
pub record AcceptsNone (e : TableEntry) : Type 0 where
  pub not : is_accepted e ≡ false
  pub none : accepted e [] ≡ None

work-after : (h : List TableEntry) (e : TableEntry) → AcceptsNone e → work (h ++ e ∷ []) ≡ work_at (count_by is_accepted h) (option_map (extended e) (latest h))
work-after h e accepts =
    ap (λ n. work_at n (latest (h ++ e ∷ []))) (count-same h e accepts.not)
    ∙ ap (λ o. work_at (count_by is_accepted h) o) (latest-same h e accepts.none)

planned-same : (o : Option Accepted) (e : TableEntry) → planned_steps (option_map (extended e) o) ≡ planned_steps o
planned-same (Some a) e = refl
planned-same None e = refl

planned-after : (h : List TableEntry) (e : TableEntry) → AcceptsNone e → planned_steps (latest (h ++ e ∷ [])) ≡ planned_steps (latest h)
planned-after h e accepts = ap planned_steps (latest-same h e accepts.none) ∙ planned-same (latest h) e

plan_no-work_at : (n : ℕ) (o : Option Accepted) → (work_at n o).plan_no ≡ n
plan_no-work_at n (Some a) = refl
plan_no-work_at n None = refl

-- what an entry makes of the work of a plan
work_at-same : (n : ℕ) (o : Option Accepted) (e : TableEntry) → ((k : ℕ) → LeavesStep e k) → work_at n (option_map (extended e) o) ≡ work_at n o
work_at-same n None e leaves = refl
work_at-same n (Some a) e leaves = ap (λ steps. work_of n a.id steps) (steps-same e a.volumes a.later 1 a.plan.steps (λ j after. leaves j))

work_at-set : (n : ℕ) (o : Option Accepted) (e : TableEntry) (j : ℕ) (f : StepWork → StepWork) (d : StepWork)
    → Makes e j f → ((k : ℕ) → k ≢ j → LeavesStep e k) → 1 ≤ j → j ≤ length (work_at n o).steps
    → work_at n (option_map (extended e) o) ≡ with_steps (set (work_at n o).steps (j - 1) (f (get_or (work_at n o).steps (j - 1) d))) (work_at n o)
work_at-set n None e j f d makes leaves some within = absurd (omega (arith, some, within))
work_at-set n (Some a) e j f d makes leaves some within =
    let as_many = length-steps_after a.volumes a.later 1 a.plan.steps in
    ap (λ steps. work_of n a.id steps)
    (steps-set f e j makes leaves a.volumes a.later 1 (j - 1) a.plan.steps d (omega (arith, some)) (omega (arith, some, within, as_many)))

work_at-map : (n : ℕ) (o : Option Accepted) (e : TableEntry) (f : StepWork → StepWork) (id : List ℕ)
    → ((k : ℕ) → Makes e k f) → (work_at n o).id ≡ Some id
    → work_at n (option_map (extended e) o) ≡ with_steps (map f (work_at n o).steps) (work_at n o)
work_at-map n None e f id makes held = absurd (cc)
work_at-map n (Some a) e f id makes held = ap (λ steps. work_of n a.id steps) (steps-map f e makes a.volumes a.later 1 a.plan.steps)

-- an entry that changes nothing
adds-nothing : (old : TableView) (e : TableEntry) → AcceptsNone e → ((k : ℕ) → LeavesStep e k)
    → ((h : List TableEntry) → old.work ≡ work h → old.planned ≡ planned_steps (latest h) → IsAnswered h e) → Adds old e old
adds-nothing old e accepts leaves answers h stands = record {
  work_is = stands.work_is ∙ sym (work_at-same (count_by is_accepted h) (latest h) e leaves) ∙ sym (work-after h e accepts);
  planned_is = stands.planned_is ∙ sym (planned-after h e accepts);
  answered = AllAnswered-snoc [] h e stands.answered (answers h stands.work_is stands.planned_is);
}

-- an entry that changes the step j
adds-at : (old new : TableView) (e : TableEntry) (j : ℕ) (f : StepWork → StepWork) (d : StepWork) → AcceptsNone e
    → Makes e j f → ((k : ℕ) → k ≢ j → LeavesStep e k) → 1 ≤ j → j ≤ length old.work.steps
    → new.work ≡ with_steps (set old.work.steps (j - 1) (f (get_or old.work.steps (j - 1) d))) old.work → new.planned ≡ old.planned
    → ((h : List TableEntry) → old.work ≡ work h → old.planned ≡ planned_steps (latest h) → IsAnswered h e) → Adds old e new
adds-at old new e j f d accepts makes leaves some within work_is planned_is answers h stands =
    let is : old.work ≡ work h = stands.work_is in
    let changed : Work → Work = λ w. with_steps (set w.steps (j - 1) (f (get_or w.steps (j - 1) d))) w in
    record {
      work_is = work_is ∙ ap changed is
          ∙ sym (work_at-set (count_by is_accepted h) (latest h) e j f d makes leaves some (subst (λ w. j ≤ length w.steps) is within))
          ∙ sym (work-after h e accepts);
      planned_is = planned_is ∙ stands.planned_is ∙ sym (planned-after h e accepts);
      answered = AllAnswered-snoc [] h e stands.answered (answers h is stands.planned_is);
    }

-- an entry that changes each step
adds-all : (old new : TableView) (e : TableEntry) (f : StepWork → StepWork) (id : List ℕ) → AcceptsNone e
    → ((k : ℕ) → Makes e k f) → old.work.id ≡ Some id
    → new.work ≡ with_steps (map f old.work.steps) old.work → new.planned ≡ old.planned
    → ((h : List TableEntry) → old.work ≡ work h → old.planned ≡ planned_steps (latest h) → IsAnswered h e) → Adds old e new
adds-all old new e f id accepts makes held work_is planned_is answers h stands =
    let is : old.work ≡ work h = stands.work_is in
    let changed : Work → Work = λ w. with_steps (map f w.steps) w in
    record {
      work_is = work_is ∙ ap changed is
          ∙ sym (work_at-map (count_by is_accepted h) (latest h) e f id makes (subst (λ w. w.id ≡ Some id) is held))
          ∙ sym (work-after h e accepts);
      planned_is = planned_is ∙ stands.planned_is ∙ sym (planned-after h e accepts);
      answered = AllAnswered-snoc [] h e stands.answered (answers h is stands.planned_is);
    }

-- a number that is another
is-other : {X : Type 0} (j k : ℕ) (x y : X) → k ≢ j → (if j == k then x else y) ≡ y
is-other j k x y ne = search (rules, ne)

is-same : {X : Type 0} (j : ℕ) (x y : X) → (if j == j then x else y) ≡ x
is-same j x y = search rules

-- submit
pub submit-refused : (old : TableView) (plan : Plan) (id : List ℕ) (volumes : List (List ℕ)) (fault : SubmitFault)
    → (◌≡◌ {A = Result (Unit {0}) SubmitFault} (Err fault) (Err Memory)) ⊎ (Err fault ≡ submit_answer old.work)
    → Adds old (Submit plan id volumes (Err fault)) old
submit-refused old plan id volumes fault answer =
    adds-nothing old (Submit plan id volumes (Err fault)) (record { not = refl; none = refl })
    (λ k. record { bytes = refl; blocks = refl; errors = refl; end = refl })
    (λ h is planned. subst (λ w. (◌≡◌ {A = Result (Unit {0}) SubmitFault} (Err fault) (Err Memory)) ⊎ (Err fault ≡ submit_answer w)) is answer)

pub submit-accepted : (old new : TableView) (plan : Plan) (id : List ℕ) (volumes : List (List ℕ))
    → Ok tt ≡ submit_answer old.work
    → new.work ≡ work_of (old.work.plan_no + 1) id (fresh_steps volumes plan.steps) → new.planned ≡ plan.steps
    → Adds old (Submit plan id volumes (Ok tt)) new
submit-accepted old new plan id volumes answer work_is planned_is h stands =
    let e = Submit plan id volumes (Ok tt) in
    let a : Accepted = record { plan = plan; id = id; volumes = volumes; later = [] } in
    let last : latest (h ++ e ∷ []) ≡ Some a = latest-new h e a refl in
    let number : old.work.plan_no ≡ count_by is_accepted h =
    ap (λ (w : Work). w.plan_no) stands.work_is ∙ plan_no-work_at (count_by is_accepted h) (latest h)
    in
    record {
      work_is = work_is
          ∙ ap (λ steps. work_of (old.work.plan_no + 1) id steps) (sym (steps-fresh volumes 1 plan.steps))
          ∙ ap (λ n. work_at (n + 1) (Some a)) number
          ∙ ap (λ n. work_at n (Some a)) (sym (count-more h e refl))
          ∙ ap (λ o. work_at (count_by is_accepted (h ++ e ∷ [])) o) (sym last);
      planned_is = planned_is ∙ ap planned_steps (sym last);
      answered = AllAnswered-snoc [] h e stands.answered (inr (subst (λ w. Ok tt ≡ submit_answer w) stands.work_is answer));
    }

-- cancel
pub cancel-refused : (old : TableView) (id : List ℕ) (fault : NoSuchPlan) → Err fault ≡ cancel_answer id old.work → Adds old (Cancel id (Err fault)) old
cancel-refused old id fault answer =
    adds-nothing old (Cancel id (Err fault)) (record { not = refl; none = refl })
    (λ k. record { bytes = refl; blocks = refl; errors = refl; end = refl })
    (λ h is planned. subst (λ w. Err fault ≡ cancel_answer id w) is answer)

pub cancel-done : (old new : TableView) (id held : List ℕ) → Ok tt ≡ cancel_answer id old.work → old.work.id ≡ Some held
    → new.work ≡ with_steps (map (with_end Cancelled) old.work.steps) old.work → new.planned ≡ old.planned
    → Adds old (Cancel id (Ok tt)) new
cancel-done old new id held answer is_held work_is planned_is =
    adds-all old new (Cancel id (Ok tt)) (with_end Cancelled) held (record { not = refl; none = refl })
    (λ k volumes es p. step-ended volumes es (Cancel id (Ok tt)) k p Cancelled refl refl refl refl)
    is_held work_is planned_is
    (λ h is planned. subst (λ w. Ok tt ≡ cancel_answer id w) is answer)

-- task
pub task-told : (old : TableView) (answer : TaskEnd) → ((k : ℕ) → end_given k (Task answer) ≡ Open) → answer ≡ task_answer old.work old.planned → Adds old (Task answer) old
task-told old answer no_end is_answer =
    adds-nothing old (Task answer) (record { not = refl; none = refl })
    (λ k. record { bytes = refl; blocks = refl; errors = refl; end = no_end k })
    (λ h is planned. is_answer ∙ ap (λ w. task_answer w old.planned) is ∙ ap (λ ps. task_answer (work h) ps) planned)

pub task-ended : (old new : TableView) (j : ℕ) (end : StepEnd) (d : StepWork) → task.StepEnd j end ≡ task_answer old.work old.planned
    → 1 ≤ j → j ≤ length old.work.steps
    → new.work ≡ with_steps (set old.work.steps (j - 1) (with_end end (get_or old.work.steps (j - 1) d))) old.work → new.planned ≡ old.planned
    → Adds old (Task (task.StepEnd j end)) new
task-ended old new j end d is_answer some within work_is planned_is =
    let e = Task (task.StepEnd j end) in
    adds-at old new e j (with_end end) d (record { not = refl; none = refl })
    (λ volumes es p. step-ended volumes es e j p end refl refl refl (is-same j end Open))
    (λ k ne. record { bytes = refl; blocks = refl; errors = refl; end = is-other j k end Open ne })
    some within work_is planned_is
    (λ h is planned. is_answer ∙ ap (λ w. task_answer w old.planned) is ∙ ap (λ ps. task_answer (work h) ps) planned)

-- count
pub count-stale : (old : TableView) (n j : ℕ) (w : Counted) (have : ℕ) → count.Stale n have ≡ count_answer n old.work → Adds old (Count n j w (count.Stale n have)) old
count-stale old n j (what.Moved bytes) have answer =
    adds-nothing old (Count n j (what.Moved bytes) (count.Stale n have)) (record { not = refl; none = refl })
    (λ k. record { bytes = refl; blocks = refl; errors = refl; end = refl })
    (λ h is planned. subst (λ x. count.Stale n have ≡ count_answer n x) is answer)
count-stale old n j what.Error have answer =
    adds-nothing old (Count n j what.Error (count.Stale n have)) (record { not = refl; none = refl })
    (λ k. record { bytes = refl; blocks = refl; errors = refl; end = refl })
    (λ h is planned. subst (λ x. count.Stale n have ≡ count_answer n x) is answer)
count-stale old n j what.NoBlock have answer =
    adds-nothing old (Count n j what.NoBlock (count.Stale n have)) (record { not = refl; none = refl })
    (λ k. record { bytes = refl; blocks = refl; errors = refl; end = refl })
    (λ h is planned. subst (λ x. count.Stale n have ≡ count_answer n x) is answer)

counted-makes : (n j : ℕ) (w : Counted) → Makes (Count n j w count.Counted) j (with_counted w)
counted-makes n j (what.Moved bytes) volumes es p =
    step-moved volumes es (Count n j (what.Moved bytes) count.Counted) j p bytes (is-same j bytes 0) (is-same j 1 0) refl refl
counted-makes n j what.Error volumes es p =
    step-erred volumes es (Count n j what.Error count.Counted) j p refl refl (is-same j 1 0) refl
counted-makes n j what.NoBlock volumes es p =
    step-ended volumes es (Count n j what.NoBlock count.Counted) j p noblock.NoBlock refl refl refl (is-same j noblock.NoBlock Open)

counted-leaves : (n j : ℕ) (w : Counted) (k : ℕ) → k ≢ j → LeavesStep (Count n j w count.Counted) k
counted-leaves n j (what.Moved bytes) k ne = record { bytes = is-other j k bytes 0 ne; blocks = is-other j k 1 0 ne; errors = refl; end = refl }
counted-leaves n j what.Error k ne = record { bytes = refl; blocks = refl; errors = is-other j k 1 0 ne; end = refl }
counted-leaves n j what.NoBlock k ne = record { bytes = refl; blocks = refl; errors = refl; end = is-other j k noblock.NoBlock Open ne }

pub count-counted : (old new : TableView) (n j : ℕ) (w : Counted) (d : StepWork) → count.Counted ≡ count_answer n old.work
    → 1 ≤ j → j ≤ length old.work.steps
    → new.work ≡ with_steps (set old.work.steps (j - 1) (with_counted w (get_or old.work.steps (j - 1) d))) old.work → new.planned ≡ old.planned
    → Adds old (Count n j w count.Counted) new
count-counted old new n j w d answer some within work_is planned_is =
    adds-at old new (Count n j w count.Counted) j (with_counted w) d (record { not = refl; none = refl })
    (counted-makes n j w) (counted-leaves n j w)
    some within work_is planned_is
    (λ h is planned. subst (λ x. count.Counted ≡ count_answer n x) is answer)

-- the same of a table by another name
pub Adds-from : (old other new : TableView) (e : TableEntry) → old ≡ other → Adds old e new → Adds other e new
Adds-from old other new e same adds = subst (λ t. Adds t e new) same adds
