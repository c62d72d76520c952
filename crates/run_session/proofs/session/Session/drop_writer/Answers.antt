use Rattle.std.proofs.Common.{◌≡◌, ◌⊎◌, ◌-◌, None, refl, sym, ◌∙◌, ap, subst, option_map}
use Rattle.std.specs.Prelude.{MatchOption}
use Rattle.map_model.specs.Cells.{growing}
use Rattle.map_model.specs.Steps.{done, failed, no_writer}
use Rattle.map_model.specs.Stands.{BlockBooks}
use Rattle.pool_state.proofs.AnyRoom.{any_room}
use Rattle.pool_state.specs.Answers.{IsWritten}
use Rattle.pool_state.specs.Books.{block_books}
use Rattle.pool_state.specs.Rooms.{choosing_of}
use Rattle.pool_state.specs.BookSteps.{no_books, given_up, given_up_meta}
use Rattle.pair_draft.specs.Writers.{writer_of}
use Rattle.run_session.specs.Standing.{NotGrowing, OpenWriter}
use Rattle.run_session.proofs.Stepping.{loose, at_block, crash_takes, crash_same, goes_on, stays_on, carried_same, carried_on, seen_same, took, writer_of_block, no_writer_of_block}
use Rattle.run_session.proofs.Stepped.{no_drop, same_entries}
use Rattle.run_session.proofs.Booked.{books_change}
use Rattle.run_session.proofs.session.Session.drop_writer.Goals as goal

pub returns-in_default-clause-step : goal.returns-in_default-clause-step
returns-in_default-clause-step g c state standing =
    let id = c.args.id in
    let f = writer_of g.D.Draft.Draft.place g.D.Draft.Draft.bytes in
    let absent = sym c.in_default.ensures.found in
    let same = stays_on refl standing standing.pool (λ t. t) (λ other. refl) (seen_same f _ _ (same_entries id _ _ absent c.in_default.ensures.taken)) in
    carried_same (any_room, 1, tt) same (crash_same _ _ _) no_writer (λ trust known. refl)
    (no_drop (state.cells id) (no_writer_of_block _ _ _ (ap (option_map f) absent) (standing.writer id c.remove.ensures.valid))) (λ e. absurd cc) (λ e w. absurd cc) refl refl (λ no. absurd no) refl refl

pub drop_write-requires-clause-stands : goal.drop_write-requires-clause-stands
drop_write-requires-clause-stands g c = (_, loose c.requires.stands.1)

pub drop_write-requires-clause-writes : goal.drop_write-requires-clause-writes
drop_write-requires-clause-writes g c =
    let f = writer_of g.D.Draft.Draft.place g.D.Draft.Draft.bytes in
    let w = c.in-Some.writer in
    let at = writer_of_block _ _ _ (f w) (ap (option_map f) (sym c.in-Some.ensures.found)) (c.requires.stands.1.writer c.args.id c.remove.ensures.valid) in
    subst (λ (b : BlockBooks). IsWritten b.entry) (sym at.stands.is) tt

pub returns-in-Ok-clause-step : goal.returns-in-Ok-clause-step
returns-in-Ok-clause-step g c state standing =
    let id = c.args.id in
    let f = writer_of g.D.Draft.Draft.place g.D.Draft.Draft.bytes in
    let w = c.in-Some.writer in
    let at = writer_of_block _ _ _ (f w) (ap (option_map f) (sym c.in-Some.ensures.found)) (standing.writer id c.remove.ensures.valid) in
    let grows : state.cells w.id ≡ growing w.stamp None at.bytes (w.reserved - w.len) = ap state.cells at.of ∙ at.grows in
    let both = at_block at.of (c.in-Ok.ensures.step state.cells at.bytes (w.reserved - w.len) (loose standing) grows) in
    let t = both.0 in
    let seen = took f id _ _ c.in-Some.ensures.taken in
    carried_on (any_room, 1, tt) t.to.cell (block_books c.drop_write.new.self.map) (choosing_of c.drop_write.new.self)
    (goes_on standing id t.to.cell state.writers (t.to.stands _ standing.pool) c.in-Ok.ensures.goes_on.honest.1 (λ other apart. c.in-Ok.ensures.others other (λ e. apart (e ∙ at.of))) seen.0 (λ other apart. refl)
    (subst (λ o. MatchOption o (NotGrowing t.to.cell) (OpenWriter (g.D.PoolDisks.worlds c.drop_write.new.self.disks) (block_books c.drop_write.new.self.map) id t.to.cell (state.writers id))) (sym seen.1)
    (subst NotGrowing (sym (t.to.says.1 refl)) tt)))
    (crash_takes both) done (λ trust known. refl) t.to.step (λ e. absurd cc) (λ e x. absurd cc) refl refl (λ no. absurd no)
    (books_change standing id _ (subst (λ n. block_books c.drop_write.new.self.map n ≡ no_books) at.of c.in-Ok.ensures.books, c.drop_write.ensures.choosing) (λ other apart. c.in-Ok.ensures.others other (λ e. apart (e ∙ at.of))))

pub returns-in-Err-clause-step : goal.returns-in-Err-clause-step
returns-in-Err-clause-step g c state standing =
    let id = c.args.id in
    let f = writer_of g.D.Draft.Draft.place g.D.Draft.Draft.bytes in
    let w = c.in-Some.writer in
    let at = writer_of_block _ _ _ (f w) (ap (option_map f) (sym c.in-Some.ensures.found)) (standing.writer id c.remove.ensures.valid) in
    let grows : state.cells w.id ≡ growing w.stamp None at.bytes (w.reserved - w.len) = ap state.cells at.of ∙ at.grows in
    let both = at_block at.of (c.in-Err.ensures.step state.cells at.bytes (w.reserved - w.len) (loose standing) grows) in
    let t = both.0 in
    let seen = took f id _ _ c.in-Some.ensures.taken in
    carried_on (any_room, 1, tt) t.to.cell (block_books c.drop_write.new.self.map) (choosing_of c.drop_write.new.self)
    (goes_on standing id t.to.cell state.writers (t.to.stands _ standing.pool) c.in-Err.ensures.goes_on.honest.1 (λ other apart. c.in-Err.ensures.others other (λ e. apart (e ∙ at.of))) seen.0 (λ other apart. refl)
    (subst (λ o. MatchOption o (NotGrowing t.to.cell) (OpenWriter (g.D.PoolDisks.worlds c.drop_write.new.self.disks) (block_books c.drop_write.new.self.map) id t.to.cell (state.writers id))) (sym seen.1)
    (subst NotGrowing (sym (t.to.says.0 refl)) tt)))
    (crash_takes both) failed (λ trust known. refl) t.to.step (λ e. c.in-Err.ensures.failed refl) (λ e x. absurd cc) refl refl (λ no. absurd no)
    (books_change standing id _ (subst (λ n. (block_books c.drop_write.new.self.map n ≡ given_up (block_books c.args.self.now.pool.map n)) ⊎ (block_books c.drop_write.new.self.map n ≡ given_up_meta (block_books c.args.self.now.pool.map n))) at.of c.in-Err.ensures.books, c.drop_write.ensures.choosing) (λ other apart. c.in-Err.ensures.others other (λ e. apart (e ∙ at.of))))
