use Rattle.std.proofs.Common.{refl, sym, ◌∙◌, subst}
use Rattle.map_model.specs.Steps.{Step, delete, no_block}
use Rattle.replica_map.specs.Books.{grown_at}
use Rattle.pool_state.proofs.AnyRoom.{any_room}
use Rattle.pool_state.proofs.Changing.{stands_unchanged}
use Rattle.pool_state.proofs.Entries.{nothing_said, agrees_by}
use Rattle.pool_state.proofs.Showing.{begins, takes}
use Rattle.pool_state.proofs.Starting.{is_absent}
use Rattle.pool_state.proofs.Deletions.{writing_step}
use Rattle.pool_state.proofs.pool_record.Pool.delete.Goals as goal

pub returns-in_default-clause-step : goal.returns-in_default-clause-step
returns-in_default-clause-step g c cells stands =
    let id = c.args.id in
    let none = nothing_said c.args.self.now.map id (stands.fit id c.find.ensures.valid) (sym c.find.ensures.value ∙ c.in_default.is) in
    takes (cells id) (subst (λ cell. Step any_room cell delete no_block cell) (sym (is_absent stands id c.find.ensures.valid none)) (refl, refl))
    (λ e. absurd cc, λ e. absurd cc)
    (λ known old. (stands_unchanged id old refl refl (λ other. refl), begins _ _)) stands

pub returns-in-Writing-clause-step : goal.returns-in-Writing-clause-step
returns-in-Writing-clause-step g c cells stands =
    let id = c.args.id in
    let map = c.args.self.now.map in
    takes (cells id) (writing_step (cells id) (grown_at map id) c.in-Some.entry c.in-Writing.is
    (agrees_by map id (stands.fit id c.find.ensures.valid) c.in-Some.entry (sym c.find.ensures.value ∙ c.in-Some.is)))
    (λ e. absurd cc, λ e. absurd cc)
    (λ known old. (stands_unchanged id old refl refl (λ other. refl), begins _ _)) stands
