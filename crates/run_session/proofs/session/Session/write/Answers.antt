use Rattle.std.proofs.Common.{◌≡◌, ◌-◌, inl, inr, Err, length, refl, sym, ◌∙◌, ap, subst, arith}
use Rattle.std.specs.Prelude.{MatchOption}
use Rattle.disk_model.specs.Worlds.{DraftPlace}
use Rattle.disk_model.specs.Marks.{faulty_of, mark_of}
use Rattle.map_model.specs.Steps.{Step, write}
use Rattle.pair_draft.specs.Writers.{writer_of}
use Rattle.pool_state.specs.Answers.{start_fault}
use Rattle.pool_state.specs.Books.{block_books}
use Rattle.pool_state.specs.Rooms.{choosing_of, room_of, volume_for}
use Rattle.pool_state.specs.Stands.{with_cell, Stands}
use Rattle.client_ops.specs.Writing.{op_writer, fill_fault, op_answer, FillStands, EndLeaves}
use Rattle.client_ops.proofs.Ending.{ends_as_write}
use Rattle.run_model.specs.Commands.{FailsBy}
use Rattle.run_model.specs.State.{Numbers}
use Rattle.run_session.specs.Standing.{NotGrowing, OpenWriter}
use Rattle.pool_state.proofs.Foreign.{foreign_then}
use Rattle.run_session.proofs.Stepping.{loose, with_cell-here, crash_takes, crash_same, goes_on, none_open, carried_same, carried_learning, carried_on, made_number}
use Rattle.run_session.proofs.Stepped.{start_gives_nothing, says_fault, is_failed, is_memory, write_learns_nothing, write_refused, write_unstarted, faulty_writer, has_meta, write_begins_nothing}
use Rattle.run_session.proofs.Composing.{safe_then, grows_started, grows_pushed, ended_stands, ended_safe}
use Rattle.map_model.specs.Sound.{Knowledge, nothing}
use Rattle.run_session.proofs.Ended.{end_gives_nothing, end_knows, fill_step, says_end, ends_failed, end_rests, fails_write}
use Rattle.disk_model.proofs.GoingOn.{went_then}
use Rattle.run_session.proofs.Stepping.{rose_from}
use Rattle.run_session.proofs.Booked.{room_here, books_change, silent, agrees_here, refused_write, unstarted_books, end_books}
use Rattle.run_session.proofs.session.Session.write.Goals as goal

pub returns-in-Some-clause-step : goal.returns-in-Some-clause-step
returns-in-Some-clause-step g c state standing =
    let fault = c.in-Some.fault in
    let same = refused_write c.args.stamp c.args.piece.now fault (state.cells c.args.id) (volume_for c.args.self.now.pool (length c.args.piece.now)) state.choosing (state.books c.args.id) c.in-Some.ensures.not_a_fault.0 c.in-Some.ensures.not_a_fault.1 in
    carried_same (room_of c.args.self.now.pool, volume_for c.args.self.now.pool (length c.args.piece.now), room_here standing (length c.args.piece.now) _ c.write_refusal.ensures.counted) standing (crash_same _ _ _) (start_fault fault) (λ trust known. says_fault trust (state.metas c.args.id) fault _ c.refusal_of.ensures)
    (write_refused (room_of c.args.self.now.pool) (state.cells c.args.id) c.args.stamp c.args.piece.now fault c.in-Some.ensures.not_a_fault.0 c.in-Some.ensures.not_a_fault.1
    (c.in-Some.ensures.refused state.cells c.args.stamp (loose standing)))
    (λ e. absurd (c.in-Some.ensures.not_a_fault.0 (is_failed fault e))) (λ e w. absurd (c.in-Some.ensures.not_a_fault.1 (is_memory fault e))) refl
    (write_learns_nothing c.args.stamp c.args.piece.now fault state.metas c.args.id (state.cells c.args.id) (λ e. absurd (c.in-Some.ensures.not_a_fault.0 e))) (λ no. absurd (start_gives_nothing fault no)) same.0 same.1

pub write_start-requires : goal.write_start-requires
write_start-requires g c = record { stands = (_, loose c.requires.stands.1) }

pub returns-in-Err-clause-step : goal.returns-in-Err-clause-step
returns-in-Err-clause-step g c state standing =
    let fault = c.in-Err.fault in
    let is_absent = c.write_refusal.ensures.absent state.cells (loose standing) c.in_default.is in
    let both = c.in-Err.ensures.step state.cells (loose standing) in
    let t = both.0 in
    let none = none_open _ _ c.args.id (state.cells c.args.id) (state.writers c.args.id) _ (subst NotGrowing (sym is_absent) tt) (standing.writer c.args.id c.write_refusal.ensures.valid) in
    let rests : NotGrowing t.to.cell = elim (t.to.says.2 refl) [ inl same ↦ subst NotGrowing (sym (same ∙ is_absent)) tt | inr waits ↦ subst NotGrowing (sym waits) tt ] in
    carried_on (room_of c.args.self.now.pool, volume_for c.args.self.now.pool (length c.args.piece.now), room_here standing (length c.args.piece.now) _ c.write_refusal.ensures.counted) t.to.cell (block_books c.write_start.new.pool.map) (choosing_of c.write_start.new.pool)
    (goes_on standing c.args.id t.to.cell state.writers (t.to.stands _ standing.pool) c.in-Err.ensures.goes_on.honest.1 c.in-Err.ensures.others (λ other apart. refl) (λ other apart. refl)
    (subst (λ o. MatchOption o (NotGrowing t.to.cell) (OpenWriter (g.D.PoolDisks.worlds c.write_start.new.pool.disks) (block_books c.write_start.new.pool.map) c.args.id t.to.cell (state.writers c.args.id))) (sym none) rests))
    (crash_takes both) (start_fault fault) (λ trust known. says_fault trust (state.metas c.args.id) fault _ c.refusal_of-in-Err.ensures)
    (write_unstarted (room_of c.args.self.now.pool) (state.cells c.args.id) c.args.stamp c.args.piece.now fault t.to.cell is_absent (c.write_refusal.ensures.fits c.in_default.is) (t.to.says.2 refl) t.to.step)
    (λ e. subst (FailsBy (faulty_of g.D.Draft.Draft g.D.Reader.Reader) (mark_of g.D.PoolDisks c.args.self.now.pool.disks) (mark_of g.D.PoolDisks c.write_start.new.pool.disks) (state.writers c.args.id) (state.cells c.args.id) (write c.args.stamp c.args.piece.now))
    (sym (t.to.says.0 (ap Err (is_failed fault e)))) (inl (c.in-Err.ensures.failed (ap Err (is_failed fault e))), refl))
    (λ e w. t.to.says.1 (ap Err (is_memory fault e)) w) refl
    (write_learns_nothing c.args.stamp c.args.piece.now fault state.metas c.args.id t.to.cell (λ e. t.to.says.0 (ap Err e))) (λ no. absurd (start_gives_nothing fault no))
    (books_change standing c.args.id _ (unstarted_books (volume_for c.args.self.now.pool (length c.args.piece.now)) c.args.stamp c.args.piece.now (choosing_of c.args.self.now.pool) (choosing_of c.write_start.new.pool) fault t.to.cell _ _ (elim (t.to.says.2 refl) [ inl same ↦ inl (same ∙ is_absent) | inr waits ↦ inr waits ])
    (λ e. t.to.says.0 (ap Err e)) (silent c.args.id c.write_refusal.ensures.valid standing.pool is_absent refl)
    (agrees_here state.cells c.args.id t.to.cell c.write_refusal.ensures.valid (t.to.stands _ standing.pool)) c.in-Err.ensures.books) c.in-Err.ensures.others)

pub op_fill-filled-requires : goal.op_fill-filled-requires
op_fill-filled-requires g c = record { whole = has_meta g.D.Draft.Draft.place (op_writer c.in-Ok.op).meta _ c.in-Ok.ensures.writer.meta }

pub op_end-requires-clause-stands : goal.op_end-requires-clause-stands
op_end-requires-clause-stands g c =
    let some = c.requires.stands in
    let t = c.in-Ok.ensures.step some.0.cells (loose some.1) in
    (_, t.0.to.stands nothing (loose some.1))

pub op_end-requires-clause-belongs : goal.op_end-requires-clause-belongs
op_end-requires-clause-belongs g c = (_, _, c.args.piece.now, c.op_fill-filled.ensures.stands _ _ c.in-Ok.ensures.writer)

pub returns-clause-step : goal.returns-clause-step
returns-clause-step g c state standing =
    let id = c.args.id in
    let stamp = c.args.stamp in
    let piece = c.args.piece.now in
    let w = op_writer c.in-Ok.op in
    let f = writer_of g.D.Draft.Draft.place g.D.Draft.Draft.bytes in
    let is_absent = c.write_refusal.ensures.absent state.cells (loose standing) c.in_default.is in
    let start = c.in-Ok.ensures.step state.cells (loose standing) in
    let t = start.0 in
    let what = c.in-Ok.ensures.what in
    let belongs = c.in-Ok.ensures.writer in
    let started = t.to.says.3 refl in
    let one = grows_started t start.1 stamp (length piece) is_absent started in
    let p = fill_step {room = room_of c.args.self.now.pool} id stamp piece (f w) belongs what.0 what.1 what.2 (with_cell-here state.cells id t.to.cell ∙ started) in
    let two = grows_pushed one p in
    let fill = c.op_fill-filled.ensures.stands _ _ belongs in
    let filled = subst (λ n. FillStands g.D.Draft.Draft.place g.D.Draft.Draft.bytes g.D.Sealed.SealedDraft.place g.D.Sealed.SealedDraft.bytes (g.D.PoolDisks.worlds c.write_start.new.pool.disks) (block_books c.write_start.new.pool.map) n stamp piece c.op_fill-filled.result) what.0
    (subst (λ n. FillStands g.D.Draft.Draft.place g.D.Draft.Draft.bytes g.D.Sealed.SealedDraft.place g.D.Sealed.SealedDraft.bytes (g.D.PoolDisks.worlds c.write_start.new.pool.disks) (block_books c.write_start.new.pool.map) w.id n piece c.op_fill-filled.result) what.1 fill) in
    let ended = c.op_end.ensures.step (with_cell state.cells id p.cell) id stamp (length piece - length piece) piece (two.stands nothing (loose standing)) filled (with_cell-here state.cells id p.cell ∙ p.says) in
    let end = ended.0 in
    let fault = fill_fault c.op_fill-filled.result in
    let reply = c.op_end.result in
    let knows = end_knows fault reply stamp piece end.takes.to.cell id end.learn state.metas end.learns end.takes.to.says in
    let e = end.takes in
    let leaves : EndLeaves fault reply stamp piece e.to.cell = e.to.says in
    let none = none_open _ _ id (state.cells id) (state.writers id) _ (subst NotGrowing (sym is_absent) tt) (standing.writer id c.write_refusal.ensures.valid) in
    let given = c.in-Ok.ensures.numbers in
    let numbers : Numbers = record { first = g.D.PoolDisks.next_number c.args.self.now.pool.disks; last = g.D.PoolDisks.next_number c.op_end.new.pool.disks } in
    let later = c.op_end.ensures.goes_on.next_number in
    let meta_given = made_number g.D.Draft.Draft.place _ _ w.meta belongs.meta_number _ _ belongs.meta c.in-Ok.ensures.meta_numbers in
    let block_is : (g.D.Draft.Draft.place w.block).number ≡ belongs.block_number = ap (λ (d : DraftPlace). d.number) belongs.block in
    let begun = c.in-Ok.ensures.books in
    carried_learning (room_of c.args.self.now.pool, volume_for c.args.self.now.pool (length c.args.piece.now), room_here standing (length c.args.piece.now) _ c.write_refusal.ensures.counted) e.to.cell knows.metas (block_books c.op_end.new.pool.map) (choosing_of c.op_end.new.pool)
    (goes_on standing id e.to.cell state.writers (subst (λ (k : Knowledge). Stands c.op_end.new.pool k (with_cell state.cells id e.to.cell)) knows.is (ended_stands two e _ standing.pool))
    (λ x. c.write_start.ensures.goes_on.honest.1 (c.op_end.ensures.goes_on.honest.1 x)) (λ other apart. c.op_end.ensures.others id stamp piece filled other apart ∙ c.write_start.ensures.others other apart) (λ other apart. refl) (λ other apart. refl)
    (subst (λ o. MatchOption o (NotGrowing e.to.cell) (OpenWriter (g.D.PoolDisks.worlds c.op_end.new.pool.disks) (block_books c.op_end.new.pool.map) id e.to.cell (state.writers id))) (sym none) (end_rests fault reply stamp piece e.to.cell leaves)))
    (safe_then (λ (k : Knowledge). Stands c.op_end.new.pool k) knows.matching_stays (ended_safe two e ended.1 stamp (length piece - length piece) piece is_absent p.says)) (op_answer reply) (λ trust known. says_end trust (state.metas id) reply _ c.end_reply_of.ensures)
    (subst (λ cell. Step (room_of c.args.self.now.pool) cell (write stamp piece) (op_answer reply) e.to.cell) (sym is_absent) (ends_as_write (room_of c.args.self.now.pool) fault reply stamp piece e.to.cell (c.write_refusal.ensures.fits c.in_default.is) leaves))
    (λ same. fails_write (faulty_of g.D.Draft.Draft g.D.Reader.Reader)
    (mark_of g.D.PoolDisks c.args.self.now.pool.disks) (mark_of g.D.PoolDisks c.op_end.new.pool.disks)
    (state.writers id) (state.cells id) fault reply stamp piece e.to.cell (ends_failed reply same) leaves
    (λ whole. rose_from _ (g.D.PoolDisks.faults c.write_start.new.pool.disks) _ c.write_start.ensures.goes_on.faults (c.op_end.ensures.failed (ends_failed reply same) whole))
    (λ stopped. inl (faulty_writer g.D.Draft.Draft.place g.D.Draft.Draft.faults (f w) numbers belongs.block_number belongs.meta_number _ _ _ _ belongs.block belongs.meta
    (record { since = omega (arith, block_is, given.since); before = omega (arith, block_is, given.before, later) })
    (record { since = meta_given.since; before = omega (arith, meta_given.before, later) })
    (c.op_fill-filled.ensures.failed stopped))))
    (λ same x. omega (arith, given.since, given.before, later)) (write_begins_nothing stamp piece (op_answer reply)) knows.after (λ no. absurd (end_gives_nothing reply no))
    (books_change standing id _ (end_books fault reply (volume_for c.args.self.now.pool (length piece)) stamp piece (choosing_of c.args.self.now.pool) (choosing_of c.op_end.new.pool) e.to.cell begun.0 begun.1 _ _ _ leaves (agrees_here state.cells id e.to.cell c.write_refusal.ensures.valid (ended_stands two e _ standing.pool)) begun.2 (c.op_end.ensures.choosing ∙ begun.3)
    (c.op_end.ensures.books id stamp piece filled))
    (λ other apart. c.op_end.ensures.others id stamp piece filled other apart ∙ c.write_start.ensures.others other apart))

pub returns-clause-goes_on : goal.returns-clause-goes_on
returns-clause-goes_on g c = went_then g.D.PoolDisks _ _ _ c.write_start.ensures.goes_on c.op_end.ensures.goes_on

pub returns-clause-foreign : goal.returns-clause-foreign
returns-clause-foreign g c = foreign_then c.write_start.ensures.foreign c.op_end.ensures.foreign
