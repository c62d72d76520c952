use Rattle.std.proofs.Common.{None, Some, false, inr, refl, sym, ◌∙◌, ap, subst}
use Rattle.map_model.specs.Cells.{absent, unsure}
use Rattle.map_model.specs.Stands.{is_final, in_doubt}
use Rattle.map_model.specs.Steps.{Step, delete, half_deleted, failed, done}
use Rattle.replica_map.specs.declared.entry.State.TheVariants.{Finalised, Unsure}
use Rattle.replica_map.specs.Books.{grown_at}
use Rattle.pool_state.proofs.AnyRoom.{any_room}
use Rattle.pool_state.specs.Books.{entry_state, book_entry, books_with}
use Rattle.pool_state.specs.BookSteps.{in_state}
use Rattle.pool_state.proofs.Changing.{pool_stands}
use Rattle.pool_state.proofs.Entries.{with_entry, become, become_alone, half_deleted_by, said_in, calm_left, settled}
use Rattle.pool_state.proofs.Showing.{takes}
use Rattle.pool_state.proofs.Deletions.{adds_removals, replica_of, final_passes_doubt, final_passes_absent, final_doubts, final_goes}
use Rattle.pool_state.proofs.pool_record.Pool.delete_final.Goals as goal

pub returns-in-Ok-clause-step : goal.returns-in-Ok-clause-step
returns-in-Ok-clause-step g c cells stands =
    let id = c.args.id in
    let map = c.args.self.now.map in
    let valid = c.requires.valid in
    let fit = stands.fit id valid in
    let e = book_entry (grown_at map id) (record c.args.entry.now { state = Finalised }) in
    let has = said_in map id fit c.args.entry.now c.requires.entry Finalised c.requires.state tt in
    let none = calm_left map id fit c.args.entry.now c.requires.entry Finalised c.requires.state tt in
    let replica = replica_of stands id valid e has refl in
    takes absent (subst (λ cell. Step any_room cell delete done absent) (sym replica.1) (refl, refl))
    (λ e. absurd cc, λ e. refl)
    (λ known old. (
      pool_stands old id valid (c.in-Ok.ensures.removes.all refl) c.remove_files.ensures.goes_on.volume_count (final_goes old id valid e has refl replica.0 replica.1)
          (settled map c.take_away.new.map (λ l. books_with None None l) c.requires.own c.take_away.ensures.books none),
      adds_removals old id valid c.remove_files.ensures.removes absent (final_passes_absent old id valid e has refl replica.0 replica.1),
    )) stands

pub returns-in-Err-clause-step : goal.returns-in-Err-clause-step
returns-in-Err-clause-step g c cells stands =
    let id = c.args.id in
    let map = c.args.self.now.map in
    let valid = c.requires.valid in
    let fit = stands.fit id valid in
    let e = book_entry (grown_at map id) (record c.args.entry.now { state = Finalised }) in
    let has = said_in map id fit c.args.entry.now c.requires.entry Finalised c.requires.state tt in
    let none = calm_left map id fit c.args.entry.now c.requires.entry Finalised c.requires.state tt in
    let replica = replica_of stands id valid e has refl in
    takes (unsure (Some replica.0) None false) (subst (λ cell. Step any_room cell delete failed (unsure (Some replica.0) None false)) (sym replica.1) (inr refl))
    (λ is. sym (ap half_deleted replica.1), λ e. absurd cc)
    (λ known old. (
      pool_stands old id valid c.remove_files.ensures.removes.some c.remove_files.ensures.goes_on.volume_count (final_doubts old id valid e has refl replica.0 replica.1)
          (settled map c.put.new.map (λ l. books_with None (Some (record c.args.entry.now { state = Unsure })) l) c.requires.own c.put.ensures.books none),
      adds_removals old id valid c.remove_files.ensures.removes (unsure (Some replica.0) None false) (final_passes_doubt old id valid e has refl replica.0 replica.1),
    )) stands

pub returns-in-Ok-clause-books : goal.returns-in-Ok-clause-books
returns-in-Ok-clause-books g c =
    let map = c.args.self.now.map in
    become_alone map c.take_away.new.map (λ l. books_with None None l) c.requires.own c.take_away.ensures.books
    (calm_left map c.args.id (c.requires.stands.1.fit c.args.id c.requires.valid) c.args.entry.now c.requires.entry Finalised c.requires.state tt)

pub returns-in-Err-clause-books : goal.returns-in-Err-clause-books
returns-in-Err-clause-books g c =
    let map = c.args.self.now.map in
    let e = c.args.entry.now in
    half_deleted_by map c.args.id e is_final _ c.requires.entry (ap (entry_state (grown_at map c.args.id)) c.requires.state)
    (become map c.put.new.map (λ l. books_with None (Some (record e { state = Unsure })) l) c.requires.own c.put.ensures.books
    ∙ sym (ap (in_state (in_doubt None)) (with_entry map c.args.id e c.requires.entry)))
