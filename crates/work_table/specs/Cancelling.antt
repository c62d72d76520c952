-- When a plan was cancelled: a cancel came while a step of it had no end.
use Rattle.std.specs.Prelude.{◌≡◌, ◌↔◌, ◌&&◌, ◌||◌, Bool, true, false, List, [], ◌∷◌, ◌++◌, Option, Some, None, Ok, Err}
use Rattle.std.specs.List.{list_any}
use Rattle.work_table.specs.declared.entry.TableEntry.{TableEntry}
use Rattle.work_table.specs.declared.entry.TableEntry.TheVariants.{Submit, Cancel, Task, Count}
use Rattle.work_table.specs.declared.plan_state.PlanState.TheVariants.{Cancelled}
use Rattle.work_table.specs.Steps.{is_open}
use Rattle.work_table.specs.History.{Accepted, latest, steps_after}
use Rattle.work_table.specs.Standing.{TableView, StandsFor}

-- a plan was cancelled by the entry
abbrev pub is_cancel : TableEntry → Bool
is_cancel (Submit plan id volumes answer) = false
is_cancel (Cancel id (Ok done)) = true
is_cancel (Cancel id (Err fault)) = false
is_cancel (Task answer) = false
is_cancel (Count plan_no step what answer) = false

-- after these entries a step of the plan has no end
abbrev pub has_open : Accepted → List TableEntry → Bool
has_open a entries = list_any is_open (steps_after a.volumes entries 1 a.plan.steps)

-- a cancel among the later entries found such a step
abbrev pub finds_open : Accepted → (before later : List TableEntry) → Bool
finds_open a before [] = false
finds_open a before (entry ∷ later) = (is_cancel entry && has_open a before) || finds_open a (before ++ entry ∷ []) later

-- the plan was cancelled while a step of it had no end
abbrev pub was_cancelled : Option Accepted → Bool
was_cancelled None = false
was_cancelled (Some a) = finds_open a [] a.later

-- a table's plan has the state PLAN_CANCELLED exactly where it was cancelled so
abbrev pub CancelledWhileOpen : Type 0
CancelledWhileOpen = (table : TableView) (history : List TableEntry) → StandsFor table history →
    ((table.work.state ≡ Cancelled) ↔ (was_cancelled (latest history) ≡ true))
