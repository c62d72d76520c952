use Rattle.std.proofs.Common.{◌≡◌, ◌+◌, ◌-◌, ◌<◌, ◌∙◌, sym, ap, subst, arith, refl, length, set, get_or, position, Some, None}
use Rattle.work_table.specs.declared.answers.TaskEnd.TheVariants.{Idle}
use Rattle.work_table.specs.Steps.{is_open, with_end}
use Rattle.work_table.specs.Answers.{task_answer, task_for}
use Rattle.work_table.specs.Standing.{TableView}
use Rattle.work_table.specs.Changes.{with_steps}
use Rattle.work_table.specs.Assigned.{assignments, IsOfWork}
use Rattle.work_table.proofs.Assigning.{set-assigned, end-assigned, moves-at, told-of-work}
use Rattle.work_table.proofs.Stepping.{no_step}
use Rattle.work_table.proofs.Adding.{task-told, task-ended, Adds-from}
use Rattle.work_table.proofs.Tasks.{task-idle, task-first, task_for-end, gives-none, position-within}
use Rattle.work_table.proofs.table.WorkTable.task.Goals as goal

pub returns-in_default-clause-answer : goal.returns-in_default-clause-answer
returns-in_default-clause-answer c =
    let none : position is_open c.self.inside.work.steps ≡ None = ap (λ l. position is_open l) (sym c.as_slice.ensures) ∙ sym c.first_open.ensures ∙ c.in_default.is in
    sym (task-idle c.self.inside.work.plan_no 1 c.self.inside.work.steps c.self.inside.planned.items none)
    ∙ ap (λ (t : TableView). task_answer t.work t.planned) c.self.view_is

pub returns-in_default-clause-stands : goal.returns-in_default-clause-stands
returns-in_default-clause-stands c =
    let none : position is_open c.self.inside.work.steps ≡ None = ap (λ l. position is_open l) (sym c.as_slice.ensures) ∙ sym c.first_open.ensures ∙ c.in_default.is in
    task-told c.args.self.now Idle (λ k. refl)
    (sym (task-idle c.self.inside.work.plan_no 1 c.self.inside.work.steps c.self.inside.planned.items none)
    ∙ ap (λ (t : TableView). task_answer t.work t.planned) c.self.view_is)

pub returns-in-StepEnd-clause-answer : goal.returns-in-StepEnd-clause-answer
returns-in-StepEnd-clause-answer c =
    let n = c.self.inside.work.plan_no in
    let steps = c.self.inside.work.steps in
    let planned = c.self.inside.planned.items in
    let i = c.in-Some.i in
    let some : position is_open steps ≡ Some i = ap (λ l. position is_open l) (sym c.as_slice.ensures) ∙ sym c.first_open.ensures ∙ c.in-Some.is in
    let told : c.task_for-task.result ≡ task_answer c.self.inside.work planned =
    c.task_for-task.ensures
    ∙ ap (λ l. task_for n (i + 1) (get_or l i no_step) c.index.result.now) c.as_slice-2.ensures
    ∙ ap (λ p. task_for n (i + 1) (get_or steps i no_step) p) c.index.ensures
    ∙ sym (task-first n i steps planned no_step c.index.result.now c.self.invariant.as_many some)
    in
    sym c.in-StepEnd.is ∙ told ∙ ap (λ (t : TableView). task_answer t.work t.planned) c.self.view_is

pub returns-in-StepEnd-clause-stands : goal.returns-in-StepEnd-clause-stands
returns-in-StepEnd-clause-stands c =
    let n = c.self.inside.work.plan_no in
    let steps = c.self.inside.work.steps in
    let planned = c.self.inside.planned.items in
    let i = c.in-Some.i in
    let some : position is_open steps ≡ Some i = ap (λ l. position is_open l) (sym c.as_slice.ensures) ∙ sym c.first_open.ensures ∙ c.in-Some.is in
    let told : c.task_for-task.result ≡ task_answer c.self.inside.work planned =
    c.task_for-task.ensures
    ∙ ap (λ l. task_for n (i + 1) (get_or l i no_step) c.index.result.now) c.as_slice-2.ensures
    ∙ ap (λ p. task_for n (i + 1) (get_or steps i no_step) p) c.index.ensures
    ∙ sym (task-first n i steps planned no_step c.index.result.now c.self.invariant.as_many some)
    in
    let old : TableView = record { work = c.self.inside.work; planned = planned } in
    let j = c.in-StepEnd.step in
    let end = c.in-StepEnd.end in
    let number : j ≡ i + 1 = task_for-end n (i + 1) (get_or c.as_slice-2.result.now i no_step) c.index.result.now j end (sym c.task_for-task.ensures ∙ c.in-StepEnd.is) in
    let within : i < length steps = position-within steps i some in
    let index : i ≡ j - 1 = omega (arith, number) in
    Adds-from old _ _ _ c.self.view_is
    (task-ended old _ j end no_step (sym c.in-StepEnd.is ∙ told) (omega (arith, number)) (omega (arith, number, within))
    (c.put_step.ensures
    ∙ ap (λ x. with_steps (set steps i x) c.self.inside.work) (c.ended.ensures ∙ ap (λ l. with_end end (get_or l i no_step)) c.as_slice-2.ensures)
    ∙ ap (λ k. with_steps (set steps k (with_end end (get_or steps k no_step))) c.self.inside.work) index)
    refl)

pub returns-in_default-task : goal.returns-in_default-task
returns-in_default-task c =
    let n = c.self.inside.work.plan_no in
    let steps = c.self.inside.work.steps in
    let planned = c.self.inside.planned.items in
    let i = c.in-Some.i in
    let some : position is_open steps ≡ Some i = ap (λ l. position is_open l) (sym c.as_slice.ensures) ∙ sym c.first_open.ensures ∙ c.in-Some.is in
    let told : c.task_for-task.result ≡ task_answer c.self.inside.work planned =
    c.task_for-task.ensures
    ∙ ap (λ l. task_for n (i + 1) (get_or l i no_step) c.index.result.now) c.as_slice-2.ensures
    ∙ ap (λ p. task_for n (i + 1) (get_or steps i no_step) p) c.index.ensures
    ∙ sym (task-first n i steps planned no_step c.index.result.now c.self.invariant.as_many some)
    in
    let answer : c.task_for-task.result ≡ task_answer c.args.self.now.work c.args.self.now.planned =
    told ∙ ap (λ (t : TableView). task_answer t.work t.planned) c.self.view_is
    in
    let same : c.task_for-task.result ≡ task_for n (i + 1) (get_or steps i no_step) c.index.result.now =
    c.task_for-task.ensures ∙ ap (λ l. task_for n (i + 1) (get_or l i no_step) c.index.result.now) c.as_slice-2.ensures
    in
    let within : i < length steps = position-within steps i some in
    record {
      of_work =
          subst (λ (t : TableView). IsOfWork t.work c.task_for-task.result) c.self.view_is
          (told-of-work c.self.inside.work (i + 1) (get_or steps i no_step) c.index.result.now c.task_for-task.result same
          (omega arith, omega (arith, within)) (moves-at c.self.inside.work i within));
      assigned = refl;
      answer = answer;
      stands = task-told c.args.self.now c.task_for-task.result (gives-none c.task_for-task.result c.in_default-task.not-StepEnd) answer;
      number = refl;
      steps = refl;
    }

pub returns-in-StepEnd-clause-assigned : goal.returns-in-StepEnd-clause-assigned
returns-in-StepEnd-clause-assigned c =
    let steps = c.self.inside.work.steps in
    let i = c.in-Some.i in
    let end = c.in-StepEnd.end in
    ap assignments (c.put_step.ensures
    ∙ ap (λ x. with_steps (set steps i x) c.self.inside.work) (c.ended.ensures ∙ ap (λ l. with_end end (get_or l i no_step)) c.as_slice-2.ensures))
    ∙ set-assigned (with_end end) (end-assigned end) steps i no_step
    ∙ ap (λ (t : TableView). assignments t.work) c.self.view_is
