use Rattle.std.proofs.Common.{None, inl, refl, sym, ◌∙◌, ap, subst}
use Rattle.map_model.specs.Cells.{absent}
use Rattle.map_model.specs.Stands.{is_waiting}
use Rattle.map_model.specs.Steps.{Step, delete, half_deleted, failed, done}
use Rattle.replica_map.specs.declared.entry.State.TheVariants.{Waiting}
use Rattle.replica_map.specs.Books.{entry_at, grown_at}
use Rattle.pool_state.proofs.AnyRoom.{any_room}
use Rattle.pool_state.specs.Books.{entry_state, book_entry, books_with}
use Rattle.pool_state.proofs.Changing.{pool_stands}
use Rattle.pool_state.proofs.Entries.{become_alone, half_deleted_by, agrees_by, waits_in, settled}
use Rattle.pool_state.proofs.Listing.{rows_same}
use Rattle.pool_state.proofs.Reaching.{reaches_same}
use Rattle.pool_state.proofs.Deletions.{waits_here, waiting_cell, quiet_failure, quiet_deletion, waiting_goes}
use Rattle.pool_state.proofs.pool_record.Pool.delete_waiting.Goals as goal

pub returns-in-Ok-clause-step : goal.returns-in-Ok-clause-step
returns-in-Ok-clause-step g c cells stands =
    let id = c.args.id in
    let map = c.clean.new.self.map in
    let valid = c.requires.valid in
    let quiet = c.clean.ensures.quiet cells stands in
    let there = ap (λ r. entry_at (record map { rows = r }) id) c.clean.ensures.rows.0 ∙ c.requires.entry in
    let has = waits_in map id c.args.entry.now there c.requires.state c.in-Ok.ensures.done in
    let e = book_entry (grown_at map id) (record c.args.entry.now { state = Waiting }) in
    let waits = waits_here (quiet.0.stands _ stands) id valid e has refl in
    quiet_deletion id quiet (subst (λ cell. Step any_room cell delete done absent) (sym waits) (refl, refl)) (λ e. absurd cc, λ e. refl)
    (λ known old. pool_stands old id valid (reaches_same id _ _ refl) refl (waiting_goes old id valid e has refl)
    (settled map c.take_away.new.map (λ l. books_with None None l) c.requires.own c.take_away.ensures.books c.in-Ok.ensures.done))

pub returns-in-Err-clause-step : goal.returns-in-Err-clause-step
returns-in-Err-clause-step g c cells stands =
    let id = c.args.id in
    let map = c.args.self.now.map in
    let e = c.args.entry.now in
    let waits = waiting_cell (cells id) (book_entry (grown_at map id) e) (ap (λ s. Rattle.pool_state.specs.Books.entry_state (grown_at map id) s) c.requires.state)
    (agrees_by map id (stands.fit id c.requires.valid) e c.requires.entry) in
    quiet_failure id (c.clean.ensures.quiet cells stands) (subst (λ cell. Step any_room cell delete failed cell) (sym waits) (inl refl))
    (λ is. waits ∙ sym (ap half_deleted waits), λ e. absurd cc)

pub returns-in-Ok-clause-books : goal.returns-in-Ok-clause-books
returns-in-Ok-clause-books g c = become_alone c.clean.new.self.map c.take_away.new.map (λ l. books_with None None l) c.requires.own c.take_away.ensures.books c.in-Ok.ensures.done

pub returns-in-Err-clause-books : goal.returns-in-Err-clause-books
returns-in-Err-clause-books g c =
    let id = c.args.id in
    let map = c.args.self.now.map in
    half_deleted_by map id c.args.entry.now is_waiting _ c.requires.entry (ap (entry_state (grown_at map id)) c.requires.state)
    (c.clean.ensures.front.0, rows_same map c.clean.new.self.map c.clean.ensures.rows id _ ∙ ap (λ l. books_with (grown_at map id) (entry_at map id) l) c.clean.ensures.front.1)
