use Rattle.std.proofs.Common.{Some, None, true, [], ◌∷◌, refl, sym, ◌∙◌, ap, subst}
use Rattle.map_model.specs.Cells.{waiting}
use Rattle.map_model.specs.Steps.{Step, failed}
use Rattle.map_model.specs.Stands.{is_waiting}
use Rattle.map_model.specs.Tenures.{books_of, writer_entry, block_left, meta_left, DropsFresh, given_up_by_caller}
use Rattle.replica_map.specs.Books.{grown_at}
use Rattle.pool_state.specs.Rooms.{room_of}
use Rattle.pool_state.specs.Books.{books_with, held_block, held_meta, waits, with_leftover}
use Rattle.pool_state.specs.BookSteps.{given_up as given_up_books}
use Rattle.pool_state.specs.Reaching.{Stays}
use Rattle.pool_state.proofs.Reaching.{reaches_same}
use Rattle.pool_state.proofs.Changing.{pool_stands}
use Rattle.pool_state.proofs.Entries.{with_entry, become, writer_in, is_written_entry, written_here, calm_left, not_unwritten, settled}
use Rattle.pool_state.proofs.Showing.{begins, takes}
use Rattle.pool_state.proofs.Ends.{writer_placed, given_up}
use Rattle.pool_state.proofs.pool_record.Pool.fail_write.Goals as goal

pub unreachable-requires : goal.unreachable-requires
unreachable-requires g c = absurd (not_unwritten c.args.self.now.map c.args.writer.id c.requires.writes (sym c.find.ensures.value ∙ c.in_default.is))

pub give_up-requires-clause-state : goal.give_up-requires-clause-state
give_up-requires-clause-state g c = is_written_entry c.args.self.now.map c.args.writer.id c.in-Some.entry (sym c.find.ensures.value ∙ c.in-Some.is) c.requires.writes

pub returns-clause-step : goal.returns-clause-step
returns-clause-step g c cells command stamp left bytes stands grows fails =
    let id = c.args.writer.id in
    let map = c.args.self.now.map in
    let valid = c.find.ensures.valid in
    let e = c.in-Some.entry in
    let has = sym c.find.ensures.value ∙ c.in-Some.is in
    let state = is_written_entry map id e has c.requires.writes in
    let fit = stands.fit id valid in
    let w = writer_in (grown_at map id) e in
    let is = written_here map id fit e has state in
    takes waiting (subst (λ cell. Step (room_of c.args.self.now) cell command failed waiting) (sym grows) fails) refl
    (λ known old.
    let placed = writer_placed old id stamp left bytes valid grows w is in (
      pool_stands old id valid (reaches_same id _ _ refl) refl
          (given_up old id stamp left bytes valid grows w is Stays (block_left w true ∷ meta_left w true ∷ []) (placed, (placed, tt))
          (λ before after stepped. subst (λ v. DropsFresh before [] None w v (books_of (Some (writer_entry w is_waiting)) (block_left w true ∷ meta_left w true ∷ []) None) waiting) (sym stepped) given_up_by_caller))
          (settled map c.give_up.new.map (λ l. with_leftover (held_meta e) (with_leftover (held_block e) (books_with None (Some (waits e)) l))) c.in-Some.ensures.own c.give_up.ensures.books
          (calm_left map id fit e has Rattle.replica_map.specs.declared.entry.State.TheVariants.Writing state tt)),
      begins _ _,
    )) stands

pub returns-clause-books : goal.returns-clause-books
returns-clause-books g c =
    let map = c.args.self.now.map in
    let e = c.in-Some.entry in
    become map c.give_up.new.map (λ l. with_leftover (held_meta e) (with_leftover (held_block e) (books_with None (Some (waits e)) l))) c.in-Some.ensures.own c.give_up.ensures.books
    ∙ sym (ap given_up_books (with_entry map c.args.writer.id e (sym c.find.ensures.value ∙ c.in-Some.is)))
