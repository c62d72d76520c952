use Rattle.std.proofs.Common.{None, true, inr, refl, sym, ap, subst}
use Rattle.map_model.specs.Cells.{absent, unsure}
use Rattle.map_model.specs.Stands.{in_doubt}
use Rattle.replica_map.specs.Books.{grown_at}
use Rattle.map_model.specs.Steps.{Step, delete, half_deleted, failed, done}
use Rattle.replica_map.specs.declared.entry.State.TheVariants.{Unsure}
use Rattle.pool_state.proofs.AnyRoom.{any_room}
use Rattle.pool_state.specs.Books.{kept_base, entry_state, book_entry, books_with}
use Rattle.pool_state.proofs.Changing.{pool_stands, unchanged_as}
use Rattle.pool_state.proofs.Entries.{become_alone, half_deleted_by, calm_left, doubt_here, settled}
use Rattle.pool_state.proofs.Showing.{takes}
use Rattle.pool_state.proofs.Deletions.{adds_removals, doubt_of, doubt_passes_cut, doubt_passes_absent, doubt_stays, doubt_goes}
use Rattle.pool_state.proofs.pool_record.Pool.delete_unsure.Goals as goal

pub returns-in-Ok-clause-step : goal.returns-in-Ok-clause-step
returns-in-Ok-clause-step g c cells stands =
    let id = c.args.id in
    let map = c.args.self.now.map in
    let valid = c.requires.valid in
    let fit = stands.fit id valid in
    let e = book_entry None (record c.args.entry.now { state = Unsure }) in
    let has = doubt_here map id fit c.args.entry.now c.requires.entry c.requires.state in
    let none = calm_left map id fit c.args.entry.now c.requires.entry Unsure c.requires.state tt in
    let two = doubt_of stands id valid e has refl in
    takes absent (subst (λ cell. Step any_room cell delete done absent) (sym two.3) (refl, refl))
    (λ e. absurd cc, λ e. refl)
    (λ known old. (
      pool_stands old id valid (c.in-Ok.ensures.removes.all refl) c.remove_files.ensures.goes_on.volume_count (doubt_goes old id valid e has refl two.0 two.1 two.2 two.3)
          (settled map c.take_away.new.map (λ l. books_with None None l) c.requires.own c.take_away.ensures.books none),
      adds_removals old id valid c.remove_files.ensures.removes absent (doubt_passes_absent old id valid e has refl two.0 two.1 two.2 two.3),
    )) stands

pub returns-in-Err-clause-step : goal.returns-in-Err-clause-step
returns-in-Err-clause-step g c cells stands =
    let id = c.args.id in
    let map = c.args.self.now.map in
    let valid = c.requires.valid in
    let fit = stands.fit id valid in
    let e = book_entry None (record c.args.entry.now { state = Unsure }) in
    let has = doubt_here map id fit c.args.entry.now c.requires.entry c.requires.state in
    let two = doubt_of stands id valid e has refl in
    takes (unsure two.0 two.1 true) (subst (λ cell. Step any_room cell delete failed (unsure two.0 two.1 true)) (sym two.3) (inr refl))
    (λ is. sym (ap half_deleted two.3), λ e. absurd cc)
    (λ known old. (
      pool_stands old id valid c.remove_files.ensures.removes.some c.remove_files.ensures.goes_on.volume_count (doubt_stays old id valid e has refl two.0 two.1 two.2 two.3)
          (unchanged_as id _ has),
      adds_removals old id valid c.remove_files.ensures.removes (unsure two.0 two.1 true) (doubt_passes_cut old id valid e has refl two.0 two.1 two.2 two.3),
    )) stands

pub returns-in-Ok-clause-books : goal.returns-in-Ok-clause-books
returns-in-Ok-clause-books g c =
    let map = c.args.self.now.map in
    become_alone map c.take_away.new.map (λ l. books_with None None l) c.requires.own c.take_away.ensures.books
    (calm_left map c.args.id (c.requires.stands.1.fit c.args.id c.requires.valid) c.args.entry.now c.requires.entry Unsure c.requires.state tt)

pub returns-in-Err-clause-books : goal.returns-in-Err-clause-books
returns-in-Err-clause-books g c =
    let map = c.args.self.now.map in
    half_deleted_by map c.args.id c.args.entry.now (in_doubt (kept_base (grown_at map c.args.id))) _ c.requires.entry (ap (entry_state (grown_at map c.args.id)) c.requires.state) refl
