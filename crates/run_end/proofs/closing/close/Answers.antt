use Rattle.std.proofs.Common.{inl, inr, [], ◌∙◌, subst}
use Rattle.run_end.specs.Closing.{Writes}
use Rattle.run_end.proofs.LastLine.{closed_so, closed_without, writes_nothing}
use Rattle.run_end.proofs.closing.close.Goals as goal

pub returns-in-Ok-clause-closed : goal.returns-in-Ok-clause-closed
returns-in-Ok-clause-closed g c = λ taken text h.
    closed_so c.args.ending _ taken _ _ text c.in_default.not-SinkFault h
    (elim c.end_with.ensures.status [ inl e ↦ inl (e ∙ c.status-in-Ok.ensures.status) | inr e ↦ inr e ])
    (subst (Writes c.end_with.result (g.K.Sink.taken c.args.sink.now) (g.K.Sink.taken c.end_with.new.sink)) (c.as_bytes.ensures.value ∙ c.in-Ok.ensures) c.end_with.ensures.written)

pub returns-in-Ok-clause-declines : goal.returns-in-Ok-clause-declines
returns-in-Ok-clause-declines g c =
    closed_so c.args.ending _ _ _ _ [] c.in_default.not-SinkFault (writes_nothing _ _)
    (elim c.end_with.ensures.status [ inl e ↦ inl (e ∙ c.status-in-Ok.ensures.status) | inr e ↦ inr e ])
    (subst (Writes c.end_with.result (g.K.Sink.taken c.args.sink.now) (g.K.Sink.taken c.end_with.new.sink)) (c.as_bytes.ensures.value ∙ c.in-Ok.ensures) c.end_with.ensures.written)

pub returns-in-Err-clause-closed : goal.returns-in-Err-clause-closed
returns-in-Err-clause-closed g c = λ taken text h.
    closed_without c.args.ending _ taken _ _ text c.in_default.not-SinkFault c.in_default.not-Complete h
    (elim c.end_with-in-Err.ensures.status [ inl e ↦ inl (e ∙ c.status-in-Err.ensures.status) | inr e ↦ inr e ]) c.end_with-in-Err.ensures.written

pub returns-in-Err-clause-declines : goal.returns-in-Err-clause-declines
returns-in-Err-clause-declines g c =
    closed_without c.args.ending _ _ _ _ [] c.in_default.not-SinkFault c.in_default.not-Complete (writes_nothing _ _)
    (elim c.end_with-in-Err.ensures.status [ inl e ↦ inl (e ∙ c.status-in-Err.ensures.status) | inr e ↦ inr e ]) c.end_with-in-Err.ensures.written
