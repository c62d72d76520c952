use Rattle.std.proofs.Common.{Err, refl, sym, ap, subst}
use Rattle.std.specs.Prelude.{MatchOption}
use Rattle.map_model.specs.Steps.{done}
use Rattle.pool_state.proofs.AnyRoom.{any_room}
use Rattle.pool_state.specs.Answers.{delete_fault}
use Rattle.pool_state.specs.Books.{block_books}
use Rattle.pool_state.specs.Rooms.{choosing_of}
use Rattle.run_session.specs.Standing.{NotGrowing, OpenWriter}
use Rattle.run_session.proofs.Stepping.{loose, crash_takes, crash_same, goes_on, none_open, carried_same, carried_on}
use Rattle.run_session.proofs.Stepped.{delete_gives_nothing, deletable, says_delete, delete_not_failed, delete_not_memory, only_failure, deleted_rests}
use Rattle.run_session.proofs.Booked.{books_change, refused_delete_books, deleted_books}
use Rattle.run_session.proofs.session.Session.delete.Goals as goal

pub returns-in-Some-clause-step : goal.returns-in-Some-clause-step
returns-in-Some-clause-step g c state standing =
    let fault = c.in-Some.fault in
    carried_same (any_room, 1, tt) standing (crash_same _ _ _) (delete_fault fault) (λ trust known. says_delete trust (state.metas c.args.id) fault _ c.delete_refusal_of.ensures)
    (c.in-Some.ensures.refused state.cells (loose standing))
    (λ e. absurd (delete_not_failed fault c.in-Some.ensures.not_failed e)) (λ e w. absurd (delete_not_memory fault e)) refl refl (λ no. absurd (delete_gives_nothing fault no))
    (refused_delete_books fault (state.cells c.args.id) 1 _ (state.books c.args.id) c.in-Some.ensures.not_failed) refl

pub delete-requires : goal.delete-requires
delete-requires g c = record { stands = (_, loose c.requires.stands.1) }

pub returns-in-Ok-clause-step : goal.returns-in-Ok-clause-step
returns-in-Ok-clause-step g c state standing =
    let id = c.args.id in
    let free = c.delete_refusal.ensures.none state.cells (loose standing) c.in_default.is in
    let both = c.in-Ok.ensures.step state.cells (loose standing) in
    let t = both.0 in
    let none = none_open _ _ id (state.cells id) (state.writers id) _ (deletable (state.cells id) free) (standing.writer id c.delete_refusal.ensures.valid) in
    carried_on (any_room, 1, tt) t.to.cell (block_books c.delete.new.self.map) (choosing_of c.delete.new.self)
    (goes_on standing id t.to.cell state.writers (t.to.stands _ standing.pool) c.delete.ensures.goes_on.honest.1 c.delete.ensures.others (λ other apart. refl) (λ other apart. refl)
    (subst (λ o. MatchOption o (NotGrowing t.to.cell) (OpenWriter (g.D.PoolDisks.worlds c.delete.new.self.disks) (block_books c.delete.new.self.map) id t.to.cell (state.writers id))) (sym none)
    (subst NotGrowing (sym (t.to.says.1 refl)) tt)))
    (crash_takes both) done (λ trust known. refl) t.to.step (λ e. absurd cc) (λ e w. absurd cc) refl refl (λ no. absurd no)
    (books_change standing id _ (c.in-Ok.ensures.books, c.delete.ensures.choosing) c.delete.ensures.others)

pub returns-in-Err-clause-step : goal.returns-in-Err-clause-step
returns-in-Err-clause-step g c state standing =
    let id = c.args.id in
    let fault = c.in-Err.fault in
    let free = c.delete_refusal.ensures.none state.cells (loose standing) c.in_default.is in
    let both = c.in-Err.ensures.step state.cells (loose standing) in
    let t = both.0 in
    let is = only_failure (state.cells id) t.to.cell fault free t.to.step in
    let none = none_open _ _ id (state.cells id) (state.writers id) _ (deletable (state.cells id) free) (standing.writer id c.delete_refusal.ensures.valid) in
    let left = t.to.says.0 (ap Err is) in
    carried_on (any_room, 1, tt) t.to.cell (block_books c.delete.new.self.map) (choosing_of c.delete.new.self)
    (goes_on standing id t.to.cell state.writers (t.to.stands _ standing.pool) c.delete.ensures.goes_on.honest.1 c.delete.ensures.others (λ other apart. refl) (λ other apart. refl)
    (subst (λ o. MatchOption o (NotGrowing t.to.cell) (OpenWriter (g.D.PoolDisks.worlds c.delete.new.self.disks) (block_books c.delete.new.self.map) id t.to.cell (state.writers id))) (sym none)
    (subst NotGrowing (sym left) (deleted_rests (state.cells id) free))))
    (crash_takes both) (delete_fault fault) (λ trust known. says_delete trust (state.metas c.args.id) fault _ c.delete_refusal_of-in-Err.ensures) t.to.step
    (λ e. (c.in-Err.ensures.failed (ap Err is), left)) (λ e w. absurd (delete_not_memory fault e)) refl refl (λ no. absurd (delete_gives_nothing fault no))
    (books_change standing id _ (deleted_books fault t.to.cell 1 _ _ _ c.in-Err.ensures.books, c.delete.ensures.choosing) c.delete.ensures.others)
