use Rattle.std.proofs.Common.{inl, inr, Some, None, false, refl, sym, ◌∙◌, ap}
use Rattle.map_model.specs.Cells.{final, growing, unsure, waiting}
use Rattle.map_model.specs.Steps.{finish, failed}
use Rattle.pool_state.proofs.Ends.{finish_step}
use Rattle.client_ops.specs.declared.writing.Filled.TheVariants.{Stopped}
use Rattle.client_ops.proofs.Ending.{sealed_learns, ends_by, ends_at}
use Rattle.client_ops.proofs.writing.op_end.Goals as goal

pub returns-in-Ok-clause-step : goal.returns-in-Ok-clause-step
returns-in-Ok-clause-step g c cells id stamp left bytes stands fill grows =
    let pair = c.in-Sealed.pair in
    ends_at _ _ _ _ _ _ id stamp bytes _ _ _ c.in-Sealed.is fill (λ there.
    ends_by there.0 (c.in-Ok.ensures.step cells bytes left there.2 stands (ap cells there.0 ∙ grows ∙ ap (λ s. growing s None bytes left) (sym there.1)))
    (λ cell says. says.1 refl ∙ ap (λ s. final (record { stamp = s; bytes = bytes })) there.1) (sealed_learns there))

pub returns-in-Err-clause-step : goal.returns-in-Err-clause-step
returns-in-Err-clause-step g c cells id stamp left bytes stands fill grows =
    let pair = c.in-Sealed.pair in
    ends_at _ _ _ _ _ _ id stamp bytes _ _ _ c.in-Sealed.is fill (λ there.
    ends_by there.0 (c.in-Err.ensures.step cells bytes left there.2 stands (ap cells there.0 ∙ grows ∙ ap (λ s. growing s None bytes left) (sym there.1)))
    (λ cell says. says.0 refl ∙ ap (λ s. unsure None (Some (record { stamp = s; bytes = bytes })) false) there.1) (sealed_learns there))

pub returns-in-Stopped-default-Failed-clause-step : goal.returns-in-Stopped-default-Failed-clause-step
returns-in-Stopped-default-Failed-clause-step g c cells id stamp left bytes stands fill grows =
    ends_at _ _ _ _ _ _ id stamp bytes _ _ _ (c.in-Stopped-default-Failed.is ∙ ap (Stopped c.in-Stopped-default-Failed.writer) c.in-Stopped-default-Failed.field-1-is) fill (λ there.
    ends_by there.0 (c.fail_write.ensures.step cells finish stamp left bytes stands (ap cells there.0 ∙ grows) (finish_step stamp left bytes failed waiting (inl refl)))
    (λ cell says. (refl, says)) refl)

pub returns-in-Ok-drop_write-clause-step : goal.returns-in-Ok-drop_write-clause-step
returns-in-Ok-drop_write-clause-step g c cells id stamp left bytes stands fill grows =
    ends_at _ _ _ _ _ _ id stamp bytes _ _ _ (c.in-Stopped-default-Memory.is ∙ ap (Stopped c.in-Stopped-default-Memory.writer) c.in-Stopped-default-Memory.field-1-is) fill (λ there.
    ends_by there.0 (c.in-Ok-drop_write.ensures.step cells bytes left stands (ap cells there.0 ∙ grows ∙ ap (λ s. growing s None bytes left) (sym there.1)))
    (λ cell says. (refl, inl (says.1 refl))) refl)

pub returns-in-Ok-drop_write-2-clause-step : goal.returns-in-Ok-drop_write-2-clause-step
returns-in-Ok-drop_write-2-clause-step g c cells id stamp left bytes stands fill grows =
    ends_at _ _ _ _ _ _ id stamp bytes _ _ _ (c.in-Stopped-default-Memory.is ∙ ap (Stopped c.in-Stopped-default-Memory.writer) c.in-Stopped-default-Memory.field-1-is) fill (λ there.
    ends_by there.0 (c.in-Ok-drop_write.ensures.step cells bytes left stands (ap cells there.0 ∙ grows ∙ ap (λ s. growing s None bytes left) (sym there.1)))
    (λ cell says. (refl, inr (says.0 refl))) refl)
