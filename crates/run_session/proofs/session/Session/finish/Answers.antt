use Rattle.std.proofs.Common.{◌≡◌, ◌-◌, inl, inr, None, refl, sym, ◌∙◌, ap, subst, option_map}
use Rattle.std.specs.Prelude.{MatchOption, IsSome}
use Rattle.map_model.specs.Cells.{growing}
use Rattle.map_model.specs.Steps.{Step, finish, done, failed, memory, no_writer}
use Rattle.pool_state.proofs.AnyRoom.{any_room}
use Rattle.pool_state.specs.Books.{block_books}
use Rattle.pool_state.specs.Rooms.{choosing_of}
use Rattle.pool_state.specs.BookSteps.{in_state, with_replica, given_up}
use Rattle.map_model.specs.Stands.{in_doubt}
use Rattle.pair_draft.specs.Writers.{writer_of}
use Rattle.run_model.specs.Commands.{FailsBy}
use Rattle.pool_state.specs.Stands.{PoolStands}
use Rattle.pool_state.proofs.Belonging.{stands_sealed}
use Rattle.pool_state.proofs.Changing.{with_cell-same}
use Rattle.disk_model.specs.Marks.{faulty_of, mark_of}
use Rattle.run_session.specs.Standing.{NotGrowing, OpenWriter}
use Rattle.run_session.proofs.Stepping.{loose, at_block, crash_takes, crash_same, crash_only, goes_on, stays_on, carried_same, carried_learning, carried_on, seen_same, seen_some, put_back, took, writer_of_block, no_writer_of_block}
use Rattle.map_model.specs.Sound.{matching, exactly, with_meta}
use Rattle.pool_state.specs.Writers.{meta_of}
use Rattle.run_session.proofs.Stepped.{learns_final, learns_doubt, learns_waiting, no_finish, memory_finish, failed_finish, has_meta, grows_not, faulty_writer}
use Rattle.run_session.proofs.Booked.{books_change, finished_books, doubted_books, given_up_books}
use Rattle.run_session.proofs.session.Session.finish.Goals as goal

pub returns-in-Err-clause-step : goal.returns-in-Err-clause-step
returns-in-Err-clause-step g c state standing =
    let id = c.args.id in
    let f = writer_of g.D.Draft.Draft.place g.D.Draft.Draft.bytes in
    let same = stays_on refl standing standing.pool (λ t. t) (λ other. refl) (seen_same f _ _ c.in-Err.ensures.same) in
    elim c.in-Err.ensures.refused [
      | inl absent ↦
          carried_same (any_room, 1, tt) same (crash_same _ _ _) no_writer (λ trust known. absent.0)
          (no_finish (state.cells id) (no_writer_of_block _ _ _ (ap (option_map f) absent.1) (standing.writer id c.take.ensures.valid))) (λ e. absurd cc) (λ e w. absurd cc) refl refl (λ no. absurd no) refl refl
      | inr wanting ↦
          let some = seen_some _ wanting.1 in
          let at = writer_of_block _ _ _ (f some.0) (ap (option_map f) some.1) (standing.writer id c.take.ensures.valid) in
          carried_same (any_room, 1, tt) same (crash_same _ _ _) memory (λ trust known. wanting.0)
          (subst (λ x. Step any_room x finish memory x) (sym at.grows) (memory_finish some.0.stamp (some.0.reserved - some.0.len) at.bytes))
          (λ e. absurd cc) (λ e w. absurd (grows_not (state.cells id) some.0.stamp at.bytes (some.0.reserved - some.0.len) at.grows w)) refl refl (λ no. absurd no) refl refl
    ]

pub seal-requires : goal.seal-requires
seal-requires g c =
    let f = writer_of g.D.Draft.Draft.place g.D.Draft.Draft.bytes in
    let w = c.in-Ok.writer in
    let at = writer_of_block _ _ _ (f w) (ap (option_map f) c.in-Ok.ensures.ok) (c.requires.stands.1.writer c.args.id c.take.ensures.valid) in
    record { whole = has_meta g.D.Draft.Draft.place w.meta _ at.stands.meta }

pub finish-requires-clause-stands : goal.finish-requires-clause-stands
finish-requires-clause-stands g c = (_, loose c.requires.stands.1)

pub finish-requires-clause-belongs : goal.finish-requires-clause-belongs
finish-requires-clause-belongs g c =
    let f = writer_of g.D.Draft.Draft.place g.D.Draft.Draft.bytes in
    let w = c.in-Ok.writer in
    let at = writer_of_block _ _ _ (f w) (ap (option_map f) c.in-Ok.ensures.ok) (c.requires.stands.1.writer c.args.id c.take.ensures.valid) in
    let sealed = c.in-Ok-seal.ensures in
    (at.bytes, stands_sealed at.stands sealed.id sealed.stamp sealed.vol sealed.places.0 sealed.places.1 (sealed.sealed _ at.bytes at.stands.pushed))

pub returns-in-Ok-finish-clause-step : goal.returns-in-Ok-finish-clause-step
returns-in-Ok-finish-clause-step g c state standing =
    let id = c.args.id in
    let f = writer_of g.D.Draft.Draft.place g.D.Draft.Draft.bytes in
    let w = c.in-Ok.writer in
    let pair = c.in-Ok-seal.pair in
    let sealed = c.in-Ok-seal.ensures in
    let at = writer_of_block _ _ _ (f w) (ap (option_map f) c.in-Ok.ensures.ok) (standing.writer id c.take.ensures.valid) in
    let key : pair.id ≡ id = c.in-Ok-seal.ensures.id ∙ at.of in
    let grows : state.cells pair.id ≡ growing pair.stamp None at.bytes (w.reserved - w.len) =
    ap state.cells key ∙ at.grows ∙ ap (λ s. growing s None at.bytes (w.reserved - w.len)) (sym c.in-Ok-seal.ensures.stamp) in
    let belongs = stands_sealed at.stands sealed.id sealed.stamp sealed.vol sealed.places.0 sealed.places.1 (sealed.sealed _ at.bytes at.stands.pushed) in
    let there = c.in-Ok-finish.ensures.step state.cells at.bytes (w.reserved - w.len) belongs (loose standing) grows in
    let both = at_block key there in
    let t = both.0 in
    let seen = took f id _ _ c.in-Ok.ensures.taken in
    carried_learning (any_room, 1, tt) t.to.cell (with_meta state.metas pair.id pair.stamp (meta_of belongs)) (block_books c.finish.new.self.map) (choosing_of c.finish.new.self)
    (goes_on standing id t.to.cell state.writers (t.to.stands _ standing.pool) c.finish.ensures.goes_on.honest.1 (λ other apart. c.finish.ensures.others other (λ e. apart (e ∙ key))) seen.0 (λ other apart. refl)
    (subst (λ o. MatchOption o (NotGrowing t.to.cell) (OpenWriter (g.D.PoolDisks.worlds c.finish.new.self.disks) (block_books c.finish.new.self.map) id t.to.cell (state.writers id))) (sym seen.1)
    (subst NotGrowing (sym (t.to.says.1 refl)) tt)))
    (crash_takes both) done (λ trust known. refl) t.to.step (λ e. absurd cc) (λ e x. absurd cc) refl
    (learns_final state.metas id pair.id pair.stamp at.bytes (meta_of belongs) key belongs.sealed.of_bytes.matches t.to.cell (t.to.says.1 refl)) (λ no. absurd no)
    (books_change standing id _ (
      finished_books pair.stamp pair.len at.bytes t.to.cell _ _ (t.to.says.1 refl) belongs.sealed.len
          (subst (λ n. block_books c.finish.new.self.map n ≡ with_replica pair.len (block_books c.args.self.now.pool.map n)) key c.in-Ok-finish.ensures.books),
      c.finish.ensures.choosing,
    ) (λ other apart. c.finish.ensures.others other (λ e. apart (e ∙ key))))

pub returns-in-Err-finish-clause-step : goal.returns-in-Err-finish-clause-step
returns-in-Err-finish-clause-step g c state standing =
    let id = c.args.id in
    let f = writer_of g.D.Draft.Draft.place g.D.Draft.Draft.bytes in
    let w = c.in-Ok.writer in
    let pair = c.in-Ok-seal.pair in
    let sealed = c.in-Ok-seal.ensures in
    let at = writer_of_block _ _ _ (f w) (ap (option_map f) c.in-Ok.ensures.ok) (standing.writer id c.take.ensures.valid) in
    let key : pair.id ≡ id = c.in-Ok-seal.ensures.id ∙ at.of in
    let grows : state.cells pair.id ≡ growing pair.stamp None at.bytes (w.reserved - w.len) =
    ap state.cells key ∙ at.grows ∙ ap (λ s. growing s None at.bytes (w.reserved - w.len)) (sym c.in-Ok-seal.ensures.stamp) in
    let belongs = stands_sealed at.stands sealed.id sealed.stamp sealed.vol sealed.places.0 sealed.places.1 (sealed.sealed _ at.bytes at.stands.pushed) in
    let there = c.in-Err-finish.ensures.step state.cells at.bytes (w.reserved - w.len) belongs (loose standing) grows in
    let both = at_block key there in
    let t = both.0 in
    let seen = took f id _ _ c.in-Ok.ensures.taken in
    carried_learning (any_room, 1, tt) t.to.cell (with_meta state.metas pair.id pair.stamp (meta_of belongs)) (block_books c.finish.new.self.map) (choosing_of c.finish.new.self)
    (goes_on standing id t.to.cell state.writers (t.to.stands _ standing.pool) c.finish.ensures.goes_on.honest.1 (λ other apart. c.finish.ensures.others other (λ e. apart (e ∙ key))) seen.0 (λ other apart. refl)
    (subst (λ o. MatchOption o (NotGrowing t.to.cell) (OpenWriter (g.D.PoolDisks.worlds c.finish.new.self.disks) (block_books c.finish.new.self.map) id t.to.cell (state.writers id))) (sym seen.1)
    (subst NotGrowing (sym (t.to.says.0 refl)) tt)))
    (crash_takes both) failed (λ trust known. refl) t.to.step
    (λ e. subst (FailsBy (faulty_of g.D.Draft.Draft g.D.Reader.Reader) (mark_of g.D.PoolDisks c.args.self.now.pool.disks) (mark_of g.D.PoolDisks c.finish.new.self.disks) (state.writers id) (state.cells id) finish) (sym (t.to.says.0 refl)) (c.in-Err-finish.ensures.failed refl)) (λ e x. absurd cc) refl
    (learns_doubt state.metas id pair.id pair.stamp at.bytes (meta_of belongs) key belongs.sealed.of_bytes.matches t.to.cell (t.to.says.0 refl)) (λ no. absurd no)
    (books_change standing id _ (
      doubted_books _ _ t.to.cell _ _ (t.to.says.0 refl)
          (subst (λ n. block_books c.finish.new.self.map n ≡ in_state (in_doubt None) (block_books c.args.self.now.pool.map n)) key c.in-Err-finish.ensures.books),
      c.finish.ensures.choosing,
    ) (λ other apart. c.finish.ensures.others other (λ e. apart (e ∙ key))))

pub returns-in-Err-Memory-default-clause-step : goal.returns-in-Err-Memory-default-clause-step
returns-in-Err-Memory-default-clause-step g c state standing =
    let id = c.args.id in
    let f = writer_of g.D.Draft.Draft.place g.D.Draft.Draft.bytes in
    let told = g.D.PoolDisks.worlds c.args.self.now.pool.disks in
    let books = block_books c.args.self.now.pool.map in
    let w = c.in-Ok.writer in
    let e = c.in-Err-Memory-default in
    let new = e.writer in
    let at = writer_of_block _ _ _ (f w) (ap (option_map f) c.in-Ok.ensures.ok) (standing.writer id c.take.ensures.valid) in
    let same = e.ensures.same e.field-0-0-is in
    let open_still = subst (OpenWriter told books id (state.cells id) (state.writers id)) (sym same) at in
    let seen = put_back f id new.id _ _ _ new open_still.of c.in-Ok.ensures.taken c.put.ensures.put in
    carried_on (any_room, 1, tt) (state.cells id) books (choosing_of c.args.self.now.pool)
    (goes_on standing id (state.cells id) state.writers (subst (PoolStands told (g.D.PoolDisks.volume_count c.args.self.now.pool.disks) books (exactly state.metas)) (sym (with_cell-same state.cells id)) standing.pool)
    (λ x. x) (λ other apart. refl) seen.0 (λ other apart. refl)
    (subst (λ o. MatchOption o (NotGrowing (state.cells id)) (OpenWriter told books id (state.cells id) (state.writers id))) (sym seen.1) open_still))
    (crash_only (λ sound. subst (PoolStands told (g.D.PoolDisks.volume_count c.args.self.now.pool.disks) books matching) (sym (with_cell-same state.cells id)) sound)) memory (λ trust known. refl) (subst (λ x. Step any_room x finish memory x) (sym at.grows) (memory_finish w.stamp (w.reserved - w.len) at.bytes))
    (λ bad. absurd cc) (λ same waits. absurd (grows_not (state.cells id) w.stamp at.bytes (w.reserved - w.len) at.grows waits)) refl refl (λ no. absurd no) (books_change standing id books (refl, refl) (λ other apart. refl))

pub returns-in-Err-Failed-default-clause-step : goal.returns-in-Err-Failed-default-clause-step
returns-in-Err-Failed-default-clause-step g c state standing =
    let id = c.args.id in
    let f = writer_of g.D.Draft.Draft.place g.D.Draft.Draft.bytes in
    let w = c.in-Ok.writer in
    let e = c.in-Err-Failed-default in
    let at = writer_of_block _ _ _ (f w) (ap (option_map f) c.in-Ok.ensures.ok) (standing.writer id c.take.ensures.valid) in
    let key : e.writer.id ≡ id = e.ensures.keeps.id ∙ at.of in
    let there = c.fail_write.ensures.step state.cells finish w.stamp (w.reserved - w.len) at.bytes (loose standing) (ap state.cells key ∙ at.grows) (failed_finish w.stamp (w.reserved - w.len) at.bytes) in
    let both = at_block key there in
    let t = both.0 in
    let seen = took f id _ _ c.in-Ok.ensures.taken in
    carried_on (any_room, 1, tt) t.to.cell (block_books c.fail_write.new.self.map) (choosing_of c.fail_write.new.self)
    (goes_on standing id t.to.cell state.writers (t.to.stands _ standing.pool) (λ x. subst IsSome (ap g.D.PoolDisks.worlds c.fail_write.ensures.disks) x) (λ other apart. c.fail_write.ensures.others other (λ same. apart (same ∙ key))) seen.0 (λ other apart. refl)
    (subst (λ o. MatchOption o (NotGrowing t.to.cell) (OpenWriter (g.D.PoolDisks.worlds c.fail_write.new.self.disks) (block_books c.fail_write.new.self.map) id t.to.cell (state.writers id))) (sym seen.1)
    (subst NotGrowing (sym t.to.says) tt)))
    (crash_takes both) failed (λ trust known. refl) t.to.step
    (λ same. subst (FailsBy (faulty_of g.D.Draft.Draft g.D.Reader.Reader) (mark_of g.D.PoolDisks c.args.self.now.pool.disks) (mark_of g.D.PoolDisks c.fail_write.new.self.disks) (state.writers id) (state.cells id) finish) (sym t.to.says)
    (inl (faulty_writer g.D.Draft.Draft.place g.D.Draft.Draft.faults (f w) (state.writers id) _ _ _ _ _ _ at.stands.block at.stands.meta at.block_given at.meta_given (e.ensures.failed e.field-0-0-is).1)))
    (λ bad x. absurd cc) refl (learns_waiting state.metas id t.to.cell t.to.says) (λ no. absurd no)
    (books_change standing id _ (
      given_up_books t.to.cell _ _ t.to.says
          (subst (λ n. block_books c.fail_write.new.self.map n ≡ given_up (block_books c.args.self.now.pool.map n)) key c.fail_write.ensures.books),
      c.fail_write.ensures.choosing,
    ) (λ other apart. c.fail_write.ensures.others other (λ same. apart (same ∙ key))))
