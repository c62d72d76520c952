use Rattle.std.proofs.Common.{rules, ◌≡◌, ◌-◌, ◌≤◌, ◌∙◌, length, ap, refl, set, get_or}
use Rattle.work_table.specs.Standing.{TableView}
use Rattle.work_table.specs.Changes.{with_counted, with_steps}
use Rattle.work_table.specs.Assigned.{assignments}
use Rattle.work_table.proofs.Assigning.{set-assigned, counted-assigned}
use Rattle.work_table.proofs.Stepping.{no_step}
use Rattle.work_table.proofs.Adding.{count-stale, count-counted, Adds-from}
use Rattle.work_table.proofs.table.WorkTable.count.Goals as goal

pub returns-then-plan_no-self-clause-stands : goal.returns-then-plan_no-self-clause-stands
returns-then-plan_no-self-clause-stands c = count-stale c.args.self.now c.args.plan_no c.args.step c.args.what _ (search rules)

pub returns-clause-stands : goal.returns-clause-stands
returns-clause-stands c =
    let old : TableView = record { work = c.self.inside.work; planned = c.self.inside.planned.items } in
    let same : c.args.plan_no ≡ c.args.self.now.work.plan_no = search rules in
    let some = c.requires.first same in
    let last = c.requires.last same in
    let within : c.args.step ≤ length old.work.steps = rw (ap (λ (t : TableView). t.work.steps) c.self.view_is) last in
    Adds-from old _ _ _ c.self.view_is
    (count-counted old _ c.args.plan_no c.args.step c.args.what no_step (search rules) some within
    (c.put_step.ensures ∙ ap (λ x. with_steps (set old.work.steps (c.args.step - 1) x) old.work)
    (c.counted-counted.ensures ∙ ap (λ l. with_counted c.args.what (get_or l (c.args.step - 1) no_step)) c.as_slice.ensures))
    refl)

pub returns-clause-assigned : goal.returns-clause-assigned
returns-clause-assigned c =
    let steps = c.self.inside.work.steps in
    let i = c.args.step - 1 in
    ap assignments (c.put_step.ensures ∙ ap (λ x. with_steps (set steps i x) c.self.inside.work)
    (c.counted-counted.ensures ∙ ap (λ l. with_counted c.args.what (get_or l i no_step)) c.as_slice.ensures))
    ∙ set-assigned (with_counted c.args.what) (counted-assigned c.args.what) steps i no_step
    ∙ ap (λ (t : TableView). assignments t.work) c.self.view_is
