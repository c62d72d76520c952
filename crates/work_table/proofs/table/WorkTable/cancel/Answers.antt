use Rattle.std.proofs.Common.{rules, ◌∙◌, ap, refl}
use Rattle.work_table.specs.declared.step_end.StepEnd.TheVariants.{Cancelled}
use Rattle.work_table.specs.Steps.{with_end}
use Rattle.work_table.specs.Standing.{TableView}
use Rattle.work_table.specs.Assigned.{assignments}
use Rattle.work_table.proofs.Assigning.{map-assigned, end-assigned}
use Rattle.work_table.proofs.Adding.{cancel-refused, cancel-done, Adds-from}
use Rattle.work_table.proofs.table.WorkTable.cancel.Goals as goal

pub returns-in_default-clause-stands : goal.returns-in_default-clause-stands
returns-in_default-clause-stands c = cancel-refused c.args.self.now c.args.id.now _ (search rules)

pub returns-clause-stands : goal.returns-clause-stands
returns-clause-stands c =
    let old : TableView = record { work = c.self.inside.work; planned = c.self.inside.planned.items } in
    Adds-from old _ _ _ c.self.view_is
    (cancel-done old _ c.args.id.now c.in-Some.held (search rules) (search rules) c.cancel_steps.ensures refl)

pub returns-clause-assigned : goal.returns-clause-assigned
returns-clause-assigned c =
    ap assignments c.cancel_steps.ensures
    ∙ map-assigned (with_end Cancelled) (end-assigned Cancelled) c.self.inside.work.steps
    ∙ ap (λ (t : TableView). assignments t.work) c.self.view_is
