use Rattle.std.proofs.Common.{◌≡◌, ◌-◌, ℕ, inl, inr, [], None, Err, refl, sym, ◌∙◌, ap, subst, arith, if◌then◌else◌, ◌==◌}
use Rattle.std.specs.Prelude.{MatchOption}
use Rattle.disk_model.specs.Worlds.{DraftPlace}
use Rattle.disk_model.specs.Marks.{GivenBetween}
use Rattle.map_model.specs.Cells.{growing}
use Rattle.map_model.specs.Steps.{done, memory}
use Rattle.pool_state.specs.Answers.{start_fault}
use Rattle.pool_state.specs.Books.{block_books}
use Rattle.pool_state.specs.Rooms.{choosing_of, room_of, volume_for}
use Rattle.pair_draft.specs.Writers.{writer_of}
use Rattle.run_model.specs.State.{Numbers}
use Rattle.run_model.specs.Books.{StartLacked, StartDraws}
use Rattle.run_session.specs.Standing.{NotGrowing, OpenWriter}
use Rattle.run_session.proofs.Stepping.{loose, crash_takes, crash_same, goes_on, stays_on, none_open, carried_same, carried, carried_on, seen_same, put_new, put_here, put_other, made_number}
use Rattle.run_session.proofs.Stepped.{start_gives_nothing, says_fault, is_failed, is_memory, begins_nothing}
use Rattle.run_session.proofs.Booked.{room_here, books_change, silent, agrees_here, refused_start, start_books}
use Rattle.run_session.proofs.session.Session.open.Goals as goal

pub returns-in-Some-clause-step : goal.returns-in-Some-clause-step
returns-in-Some-clause-step g c state standing =
    let fault = c.in-Some.fault in
    let same = refused_start c.args.stamp c.args.need fault (state.cells c.args.id) (volume_for c.args.self.now.pool c.args.need) state.choosing (state.books c.args.id) c.in-Some.ensures.not_a_fault.0 c.in-Some.ensures.not_a_fault.1 in
    carried_same (room_of c.args.self.now.pool, volume_for c.args.self.now.pool c.args.need, room_here standing c.args.need _ c.write_refusal.ensures.counted) standing (crash_same _ _ _) (start_fault fault) (λ trust known. says_fault trust (state.metas c.args.id) fault _ c.refusal_of.ensures)
    (c.in-Some.ensures.refused state.cells c.args.stamp (loose standing))
    (λ e. absurd (c.in-Some.ensures.not_a_fault.0 (is_failed fault e))) (λ e w. absurd (c.in-Some.ensures.not_a_fault.1 (is_memory fault e)))
    (begins_nothing c.args.stamp c.args.need fault) refl (λ no. absurd (start_gives_nothing fault no)) same.0 same.1

pub returns-in-Err-clause-step : goal.returns-in-Err-clause-step
returns-in-Err-clause-step g c state standing =
    let is_absent = c.write_refusal.ensures.absent state.cells (loose standing) c.in_default.is in
    carried_same (room_of c.args.self.now.pool, volume_for c.args.self.now.pool c.args.need, room_here standing c.args.need _ c.write_refusal.ensures.counted) (stays_on refl standing standing.pool (λ t. t) (λ id. refl) (seen_same (writer_of g.D.Draft.Draft.place g.D.Draft.Draft.bytes) _ _ c.make_room.ensures.same))
    (crash_same _ _ _) memory (λ trust known. refl) (c.write_refusal.ensures.memory state.cells c.args.stamp (loose standing) c.in_default.is)
    (λ e. absurd cc) (λ e w. absurd (let bad : Rattle.map_model.specs.Cells.absent ≡ Rattle.map_model.specs.Cells.waiting = sym is_absent ∙ w in cc)) refl refl (λ no. absurd no)
    (subst (λ x. StartLacked (volume_for c.args.self.now.pool c.args.need) state.choosing.next_rev c.args.stamp c.args.need x (state.books c.args.id) (state.books c.args.id)) (sym is_absent) refl)
    (subst (λ x. StartDraws x (volume_for c.args.self.now.pool c.args.need) state.choosing state.choosing) (sym is_absent) refl)

pub start_write-requires : goal.start_write-requires
start_write-requires g c = record { stands = (_, loose c.requires.stands.1) }

pub returns-in-Err-start_write-clause-step : goal.returns-in-Err-start_write-clause-step
returns-in-Err-start_write-clause-step g c state standing =
    let fault = c.in-Err-start_write.fault in
    let f = writer_of g.D.Draft.Draft.place g.D.Draft.Draft.bytes in
    let is_absent = c.write_refusal.ensures.absent state.cells (loose standing) c.in_default.is in
    let both = c.in-Err-start_write.ensures.step state.cells (loose standing) in
    let t = both.0 in
    let none = none_open _ _ c.args.id (state.cells c.args.id) (state.writers c.args.id) _ (subst NotGrowing (sym is_absent) tt) (standing.writer c.args.id c.write_refusal.ensures.valid) in
    let rests : NotGrowing t.to.cell = elim (t.to.says.2 refl) [ inl same ↦ subst NotGrowing (sym (same ∙ is_absent)) tt | inr waits ↦ subst NotGrowing (sym waits) tt ] in
    carried_on (room_of c.args.self.now.pool, volume_for c.args.self.now.pool c.args.need, room_here standing c.args.need _ c.write_refusal.ensures.counted) t.to.cell (block_books c.start_write.new.self.map) (choosing_of c.start_write.new.self)
    (goes_on standing c.args.id t.to.cell state.writers (t.to.stands _ standing.pool) c.in-Err-start_write.ensures.goes_on.honest.1 c.in-Err-start_write.ensures.others
    (λ other apart. seen_same f _ _ c.make_room.ensures.same other) (λ other apart. refl)
    (subst (λ o. MatchOption o (NotGrowing t.to.cell) (OpenWriter (g.D.PoolDisks.worlds c.start_write.new.self.disks) (block_books c.start_write.new.self.map) c.args.id t.to.cell (state.writers c.args.id))) (sym (seen_same f _ _ c.make_room.ensures.same c.args.id ∙ none)) rests))
    (crash_takes both) (start_fault fault) (λ trust known. says_fault trust (state.metas c.args.id) fault _ c.refusal_of-in-Err-start_write.ensures) t.to.step
    (λ e. (c.in-Err-start_write.ensures.failed (ap Err (is_failed fault e)), t.to.says.0 (ap Err (is_failed fault e))))
    (λ e w. t.to.says.1 (ap Err (is_memory fault e)) w) (begins_nothing c.args.stamp c.args.need fault) refl (λ no. absurd (start_gives_nothing fault no))
    (books_change standing c.args.id _ (start_books (volume_for c.args.self.now.pool c.args.need) c.args.stamp c.args.need (choosing_of c.args.self.now.pool) (choosing_of c.start_write.new.self) fault t.to.cell _ _ (elim (t.to.says.2 refl) [ inl same ↦ inl (same ∙ is_absent) | inr waits ↦ inr waits ])
    (silent c.args.id c.write_refusal.ensures.valid standing.pool is_absent refl) (agrees_here state.cells c.args.id t.to.cell c.write_refusal.ensures.valid (t.to.stands _ standing.pool))
    c.in-Err-start_write.ensures.books) c.in-Err-start_write.ensures.others)

pub returns-clause-step : goal.returns-clause-step
returns-clause-step g c state standing =
    let id = c.args.id in
    let w = c.in-Ok-start_write.writer in
    let f = writer_of g.D.Draft.Draft.place g.D.Draft.Draft.bytes in
    let both = c.in-Ok-start_write.ensures.step state.cells (loose standing) in
    let t = both.0 in
    let what = c.in-Ok-start_write.ensures.what in
    let belongs = c.in-Ok-start_write.ensures.writer in
    let begun = c.in-Ok-start_write.ensures.books in
    let first = g.D.PoolDisks.next_number c.args.self.now.pool.disks in
    let last = g.D.PoolDisks.next_number c.start_write.new.self.disks in
    let new_numbers : Numbers = record { first = first; last = last } in
    let numbers : ℕ → Numbers = λ other. if other == id then new_numbers else state.writers other in
    let seen = put_new f id w.id _ _ _ w what.0 c.make_room.ensures.same c.put.ensures.put in
    let left : c.args.need ≡ w.reserved - w.len = omega (arith, what.2, belongs.pushed.len) in
    let grows = t.to.says.3 refl ∙ ap (λ n. growing c.args.stamp None [] n) left ∙ ap (λ s. growing s None [] (w.reserved - w.len)) (sym what.1) in
    let opened : OpenWriter (g.D.PoolDisks.worlds c.start_write.new.self.disks) (block_books c.start_write.new.self.map) id t.to.cell new_numbers (f w) = record {
      of = what.0;
      bytes = [];
      grows = grows;
      stands = belongs;
      block_given = subst (GivenBetween first last) (ap (λ (d : DraftPlace). d.number) belongs.block) c.in-Ok-start_write.ensures.numbers;
      meta_given = made_number g.D.Draft.Draft.place first last w.meta _ _ _ belongs.meta c.in-Ok-start_write.ensures.meta_numbers;
    } in
    carried (room_of c.args.self.now.pool, volume_for c.args.self.now.pool c.args.need, room_here standing c.args.need _ c.write_refusal.ensures.counted) t.to.cell state.metas numbers (block_books c.start_write.new.self.map) (choosing_of c.start_write.new.self)
    (goes_on standing id t.to.cell numbers (t.to.stands _ standing.pool) c.in-Ok-start_write.ensures.goes_on.honest.1 c.in-Ok-start_write.ensures.others
    seen.0 (λ other apart. put_other other id new_numbers (state.writers other) apart)
    (subst (λ o. MatchOption o (NotGrowing t.to.cell) (OpenWriter (g.D.PoolDisks.worlds c.start_write.new.self.disks) (block_books c.start_write.new.self.map) id t.to.cell (numbers id))) (sym seen.1)
    (subst (λ n. OpenWriter (g.D.PoolDisks.worlds c.start_write.new.self.disks) (block_books c.start_write.new.self.map) id t.to.cell n (f w)) (sym (put_here id id new_numbers (state.writers id) refl)) opened)))
    (crash_takes both) done (λ trust known. refl) t.to.step (λ e. absurd cc) (λ e x. absurd cc) (λ other. refl) refl (λ no. absurd no)
    (books_change standing id _ ((begun.0, begun.1, begun.2), begun.3) c.in-Ok-start_write.ensures.others)
