use Rattle.std.proofs.Common.{ap, ◌∙◌, sym, subst, Ok, Err}
use Rattle.script_lang.specs.declared.LineFault.TheVariants.{Bad}
use Rattle.std.specs.Io.KnownBytes.{Appends}
use Rattle.line_io.specs.Written.{AppendsFront}
use Rattle.dn_play.proofs.Answering.{not_blank, unanswered_less, unanswered_reopen, told_ok, told_bad, answered_blank, answered_command, unanswered_outside, unanswered_later, unanswered_unread, unanswered_unshown, unanswered_cut}
use Rattle.dn_play.proofs.Crashes.{counts_on, now_safe, leaves_safe}
use Rattle.run_session.specs.Standing.{SessionStands}
use Rattle.run_end.specs.declared.ending.Ending.TheVariants.{NoMemory}
use Rattle.dn_play.specs.Answer.{SessionStops, reopen_ending}
use Rattle.dn_play.specs.declared.answer.CarryFault.TheVariants.{Reopen as NotReopened}
use Rattle.dn_play.proofs.answer.answer.Goals as goal

pub returns-in-Err-Bad-clause-err : goal.returns-in-Err-Bad-clause-err
returns-in-Err-Bad-clause-err g c state standing =
    unanswered_less {StandsFor = SessionStands c.args.session.now}
    (unanswered_outside standing (now_safe standing.pool (g.met.D.PoolDisks.only_now c.args.session.now.pool.disks)) _ _ _ _
    (told_bad c.args.text.now c.in-Err-Bad.field-0 _ (c.in-Err-Bad.field-0-is ∙ ap Bad (sym c.in-Err-Bad.column-is)) c.in-Err-Bad.ensures.line))
    (λ s stood. leaves_safe stood.pool)

pub returns-in-Err-Memory-clause-err : goal.returns-in-Err-Memory-clause-err
returns-in-Err-Memory-clause-err g c state standing =
    unanswered_less {StandsFor = SessionStands c.args.session.now}
    (unanswered_unread standing (now_safe standing.pool (g.met.D.PoolDisks.only_now c.args.session.now.pool.disks)) _ _ _) (λ s stood. leaves_safe stood.pool)

pub returns-in-Blank-clause-ok : goal.returns-in-Blank-clause-ok
returns-in-Blank-clause-ok g c state standing = answered_blank standing (now_safe standing.pool (g.met.D.PoolDisks.only_now c.args.session.now.pool.disks)) _ _ (told_ok c.args.text.now c.in-Ok.line c.in-Ok.ensures.line ∙ ap Ok c.in-Blank.is)

pub returns-then-not-is_carried_out-clause-err : goal.returns-then-not-is_carried_out-clause-err
returns-then-not-is_carried_out-clause-err g c state standing =
    unanswered_less {StandsFor = SessionStands c.args.session.now}
    (unanswered_later standing (now_safe standing.pool (g.met.D.PoolDisks.only_now c.args.session.now.pool.disks)) _ _ _
    (c.in-Ok.line, told_ok c.args.text.now c.in-Ok.line c.in-Ok.ensures.line, not_blank c.in-Ok.line c.in_default.not-Blank, sym c.is_carried_out.ensures ∙ c.if-not-is_carried_out.true))
    (λ s stood. leaves_safe stood.pool)

pub carry_out-requires-clause-command : goal.carry_out-requires-clause-command
carry_out-requires-clause-command g c = sym c.is_carried_out.ensures ∙ c.if-not-is_carried_out.false

pub returns-in-Err-Reopen-clause-err : goal.returns-in-Err-Reopen-clause-err
returns-in-Err-Reopen-clause-err g c state standing =
    let fault = c.in-Err-Reopen.fault in
    let is = ap Err c.in-Err-Reopen.field-0-is in
    let on = c.in-Err-Reopen.ensures.goes_on in
    unanswered_reopen state (counts_on on) on.passes (now_safe standing.pool (g.met.D.PoolDisks.only_now c.args.session.now.pool.disks))
    (c.in-Err-Reopen.ensures.err state standing) (λ image leaves. g.met.D.PoolDisks.counts_now c.carry_out.new.session.pool.disks _ image on.moment leaves) _ _ _ _ fault _ (c.reopen_ending_of.ensures ∙ ap reopen_ending c.in-Err-Reopen.fault-is)
    (told_ok c.args.text.now c.in-Ok.line c.in-Ok.ensures.line ∙ ap Ok (c.in-Err-Reopen.ensures.reopens fault is)) (λ e. c.in-Err-Reopen.ensures.failed (is ∙ ap (λ f. Err (NotReopened f)) e))

pub returns-in-Err-Memory-carry_out-clause-err : goal.returns-in-Err-Memory-carry_out-clause-err
returns-in-Err-Memory-carry_out-clause-err g c state standing =
    let old = c.args.session.now in
    subst (λ s. SessionStops state c.args.number c.args.text.now (g.K.Sink.taken c.args.sink.now) (g.K.Sink.taken c.args.sink.now) NoMemory old s) (sym (c.in-Err-Memory-carry_out.ensures.unchanged (ap Err c.in-Err-Memory-carry_out.field-0-is)))
    (unanswered_less {StandsFor = SessionStands old} (unanswered_unread standing (now_safe standing.pool (g.met.D.PoolDisks.only_now old.pool.disks)) _ _ _) (λ s stood. leaves_safe stood.pool))

pub returns-in_default-write_reply-clause-err : goal.returns-in_default-write_reply-clause-err
returns-in_default-write_reply-clause-err g c state standing =
    let on = c.in-Ok-carry_out.ensures.goes_on in
    let line = c.in-Ok-carry_out.ensures.ok state standing in
    unanswered_less {StandsFor = SessionStands c.carry_out.new.session}
    (unanswered_unshown (now_safe standing.pool (g.met.D.PoolDisks.only_now c.args.session.now.pool.disks)) _ (g.K.Sink.taken c.args.sink.now) _ _ c.in-Ok.line c.in-Ok-carry_out.reply (told_ok c.args.text.now c.in-Ok.line c.in-Ok.ensures.line) (not_blank c.in-Ok.line c.in_default.not-Blank) (sym c.is_carried_out.ensures ∙ c.if-not-is_carried_out.false)
    (counts_on on) on.passes line (now_safe line.stands.pool (g.met.D.PoolDisks.only_now c.carry_out.new.session.pool.disks)))
    (λ s stood. leaves_safe stood.pool)

pub returns-in-Ok-write_all-clause-ok : goal.returns-in-Ok-write_all-clause-ok
returns-in-Ok-write_all-clause-ok g c state standing =
    let on = c.in-Ok-carry_out.ensures.goes_on in
    let line = c.in-Ok-carry_out.ensures.ok state standing in
    answered_command (now_safe standing.pool (g.met.D.PoolDisks.only_now c.args.session.now.pool.disks)) _ _ c.args.number _ c.in-Ok.line c.in-Ok-carry_out.reply (told_ok c.args.text.now c.in-Ok.line c.in-Ok.ensures.line) (not_blank c.in-Ok.line c.in_default.not-Blank) (sym c.is_carried_out.ensures ∙ c.if-not-is_carried_out.false)
    (counts_on on) on.passes line (now_safe line.stands.pool (g.met.D.PoolDisks.only_now c.carry_out.new.session.pool.disks))
    (subst (Appends (g.K.Sink.taken c.args.sink.now) (g.K.Sink.taken c.write_all.new.sink)) (c.deref.ensures.value ∙ c.in-Ok-write_reply.ensures) c.in-Ok-write_all.ensures.ok)

pub returns-clause-err : goal.returns-clause-err
returns-clause-err g c state standing =
    let on = c.in-Ok-carry_out.ensures.goes_on in
    let line = c.in-Ok-carry_out.ensures.ok state standing in
    unanswered_less {StandsFor = SessionStands c.carry_out.new.session}
    (unanswered_cut (now_safe standing.pool (g.met.D.PoolDisks.only_now c.args.session.now.pool.disks)) _ _ _ _ c.in-Ok.line c.in-Ok-carry_out.reply (told_ok c.args.text.now c.in-Ok.line c.in-Ok.ensures.line) (not_blank c.in-Ok.line c.in_default.not-Blank) (sym c.is_carried_out.ensures ∙ c.if-not-is_carried_out.false)
    (counts_on on) on.passes line (now_safe line.stands.pool (g.met.D.PoolDisks.only_now c.carry_out.new.session.pool.disks))
    (subst (AppendsFront (g.K.Sink.taken c.args.sink.now) (g.K.Sink.taken c.write_all.new.sink)) (c.deref.ensures.value ∙ c.in-Ok-write_reply.ensures) c.in-Err.ensures.err))
    (λ s stood. leaves_safe stood.pool)
