use Rattle.std.proofs.Common.{inl, inr, Err, length, refl, sym, ◌∙◌, ap, subst}
use Rattle.map_model.specs.Steps.{Step, read, content, failed, memory}
use Rattle.pool_state.proofs.AnyRoom.{any_room}
use Rattle.pool_state.specs.Answers.{start_fault}
use Rattle.pool_state.specs.Books.{block_books}
use Rattle.run_session.specs.Standing.{SoundFor}
use Rattle.run_session.proofs.Stepping.{loose, crash_rests, stays_on, carried_same}
use Rattle.run_session.proofs.Stepped.{start_gives_nothing, says_fault, is_failed, no_lack, reads_content, reads_failed, reads_memory, not_waiting, gives_data, gives_verdict, faulty_reader}
use Rattle.run_session.proofs.session.Session.read.Goals as goal

pub start_read-requires : goal.start_read-requires
start_read-requires g c = record { stands = (_, loose c.requires.stands.1) }

pub returns-in-Err-clause-step : goal.returns-in-Err-clause-step
returns-in-Err-clause-step g c state standing =
    let fault = c.in-Err.fault in
    let step = c.in-Err.ensures.refused state.cells (loose standing) in
    carried_same (any_room, 1, tt) (stays_on c.start_read.ensures.choosing standing ((c.start_read.ensures.quiet state.cells (loose standing)).0.stands _ standing.pool) c.start_read.ensures.goes_on.honest.1 (λ id. ap (λ m. block_books m id) c.start_read.ensures.map) (λ id. refl))
    (crash_rests (c.start_read.ensures.quiet state.cells (loose standing)))
    (start_fault fault) (λ trust known. says_fault trust (state.metas c.args.id) fault _ c.refusal_of.ensures) step
    (λ e. inl (c.in-Err.ensures.failed (ap Err (is_failed fault e))))
    (λ e w. absurd (no_lack (state.cells c.args.id) (subst (λ a. Step any_room (state.cells c.args.id) read a (state.cells c.args.id)) e step) w)) refl refl (λ no. absurd (start_gives_nothing fault no)) refl refl

pub returns-in-Ok-read_all-clause-step : goal.returns-in-Ok-read_all-clause-step
returns-in-Ok-read_all-clause-step g c state standing =
    let lent = c.in-Ok.ensures.lent _ state.cells standing.pool in
    let all_read = c.in-Ok-read_all.ensures in
    carried_same (any_room, 1, tt) (stays_on c.start_read.ensures.choosing standing ((c.start_read.ensures.quiet state.cells (loose standing)).0.stands _ standing.pool) c.start_read.ensures.goes_on.honest.1 (λ id. ap (λ m. block_books m id) c.start_read.ensures.map) (λ id. refl))
    (crash_rests (c.start_read.ensures.quiet state.cells (loose standing)))
    (content lent.replica)
    (λ trust known. gives_data lent (SoundFor c.args.self.now state.cells)
    _ _ c.get-stamp.ensures.value (ap length c.new.ensures ∙ all_read.len)
    (λ all is. c.new.ensures ∙ all_read.bytes all is) (λ sums block_is meta_is few. all_read.verified _ sums (record { block_is = block_is; meta_is = meta_is; few = few })) trust known)
    (reads_content (state.cells c.args.id) lent.replica lent.cell_is) (λ e. absurd cc) (λ e w. absurd cc) refl refl (λ yes. c.in-Ok.ensures.looked refl) refl refl

pub returns-in-Err-Failed-clause-step : goal.returns-in-Err-Failed-clause-step
returns-in-Err-Failed-clause-step g c state standing =
    let lent = c.in-Ok.ensures.lent _ state.cells standing.pool in
    carried_same (any_room, 1, tt) (stays_on c.start_read.ensures.choosing standing ((c.start_read.ensures.quiet state.cells (loose standing)).0.stands _ standing.pool) c.start_read.ensures.goes_on.honest.1 (λ id. ap (λ m. block_books m id) c.start_read.ensures.map) (λ id. refl))
    (crash_rests (c.start_read.ensures.quiet state.cells (loose standing)))
    failed (λ trust known. refl) (reads_failed (state.cells c.args.id) lent.replica lent.cell_is)
    (λ e. inr (inr (elim (c.in-Err-Failed.ensures.failed (ap Err c.in-Err-Failed.field-0-is)) [
      | inl block ↦ faulty_reader g.D.Reader.Reader.number g.D.Reader.Reader.faults _ _ c.in-Ok.pair.block block c.in-Ok.ensures.block_number
      | inr meta ↦ faulty_reader g.D.Reader.Reader.number g.D.Reader.Reader.faults _ _ c.in-Ok.pair.meta meta c.in-Ok.ensures.meta_number
    ])))
    (λ e w. absurd cc) refl refl (λ no. absurd no) refl refl

pub returns-in-Err-Bad-clause-step : goal.returns-in-Err-Bad-clause-step
returns-in-Err-Bad-clause-step g c state standing =
    let lent = c.in-Ok.ensures.lent _ state.cells standing.pool in
    let e = c.in-Err-Bad in
    let is = ap Err e.field-0-is in
    carried_same (any_room, 1, tt) (stays_on c.start_read.ensures.choosing standing ((c.start_read.ensures.quiet state.cells (loose standing)).0.stands _ standing.pool) c.start_read.ensures.goes_on.honest.1 (λ id. ap (λ m. block_books m id) c.start_read.ensures.map) (λ id. refl))
    (crash_rests (c.start_read.ensures.quiet state.cells (loose standing)))
    (content lent.replica)
    (λ trust known. gives_verdict lent (SoundFor c.args.self.now state.cells)
    e.verdict (e.ensures.not_whole e.verdict is) (e.ensures.on_length e.verdict is)
    (λ sums block_is meta_is few. e.ensures.bad _ sums (record { block_is = block_is; meta_is = meta_is; few = few }) e.verdict is)
    (λ told sound.
    let sound_lent = c.in-Ok.ensures.lent _ state.cells sound in
    let it = sound_lent.meta_is told in
    e.ensures.whole _ it.content (record { block_is = sound_lent.bytes_are told; meta_is = it.is; few = it.few }) it.matches (sym sound_lent.len_is) e.verdict is)
    trust known)
    (reads_content (state.cells c.args.id) lent.replica lent.cell_is) (λ x. absurd cc) (λ x w. absurd cc) refl refl (λ yes. c.in-Ok.ensures.looked refl) refl refl

pub returns-in_default-clause-step : goal.returns-in_default-clause-step
returns-in_default-clause-step g c state standing =
    let lent = c.in-Ok.ensures.lent _ state.cells standing.pool in
    carried_same (any_room, 1, tt) (stays_on c.start_read.ensures.choosing standing ((c.start_read.ensures.quiet state.cells (loose standing)).0.stands _ standing.pool) c.start_read.ensures.goes_on.honest.1 (λ id. ap (λ m. block_books m id) c.start_read.ensures.map) (λ id. refl))
    (crash_rests (c.start_read.ensures.quiet state.cells (loose standing)))
    memory (λ trust known. refl) (reads_memory (state.cells c.args.id) lent.replica lent.cell_is)
    (λ e. absurd cc) (λ e w. absurd (not_waiting (state.cells c.args.id) lent.replica lent.cell_is w)) refl refl (λ no. absurd no) refl refl

pub returns-clause-step : goal.returns-clause-step
returns-clause-step g c state standing =
    let lent = c.in-Ok.ensures.lent _ state.cells standing.pool in
    carried_same (any_room, 1, tt) (stays_on c.start_read.ensures.choosing standing ((c.start_read.ensures.quiet state.cells (loose standing)).0.stands _ standing.pool) c.start_read.ensures.goes_on.honest.1 (λ id. ap (λ m. block_books m id) c.start_read.ensures.map) (λ id. refl))
    (crash_rests (c.start_read.ensures.quiet state.cells (loose standing)))
    memory (λ trust known. refl) (reads_memory (state.cells c.args.id) lent.replica lent.cell_is)
    (λ e. absurd cc) (λ e w. absurd (not_waiting (state.cells c.args.id) lent.replica lent.cell_is w)) refl refl (λ no. absurd no) refl refl
