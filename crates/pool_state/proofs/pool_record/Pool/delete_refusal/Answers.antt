use Rattle.std.proofs.Common.{refl, sym, ◌∙◌, subst}
use Rattle.map_model.specs.Steps.{Step, delete, no_block}
use Rattle.replica_map.specs.Books.{grown_at}
use Rattle.pool_state.proofs.AnyRoom.{any_room}
use Rattle.pool_state.proofs.Entries.{nothing_said, agrees_by}
use Rattle.pool_state.proofs.Starting.{is_absent}
use Rattle.pool_state.proofs.Deletions.{refused_cell, free_cell}
use Rattle.pool_state.proofs.pool_record.Pool.delete_refusal.Goals as goal

pub returns-in-Some-clause-refused : goal.returns-in-Some-clause-refused
returns-in-Some-clause-refused g c cells stands =
    let map = c.args.self.now.map in
    refused_cell (cells c.args.id) (grown_at map c.args.id) c.in-Some.entry c.refusal_in.result c.refusal_in.ensures
    (agrees_by map c.args.id (stands.fit c.args.id c.find.ensures.valid) c.in-Some.entry (sym c.find.ensures.value ∙ c.in-Some.is))

pub returns-in-Some-clause-none : goal.returns-in-Some-clause-none
returns-in-Some-clause-none g c cells stands is =
    let map = c.args.self.now.map in
    free_cell (cells c.args.id) (grown_at map c.args.id) c.in-Some.entry (sym c.refusal_in.ensures ∙ is)
    (agrees_by map c.args.id (stands.fit c.args.id c.find.ensures.valid) c.in-Some.entry (sym c.find.ensures.value ∙ c.in-Some.is))

pub returns-in-None-clause-refused : goal.returns-in-None-clause-refused
returns-in-None-clause-refused g c cells stands =
    subst (λ cell. Step any_room cell delete no_block cell)
    (sym (is_absent stands c.args.id c.find.ensures.valid (nothing_said c.args.self.now.map c.args.id (stands.fit c.args.id c.find.ensures.valid) (sym c.find.ensures.value ∙ c.in-None.is)))) (refl, refl)
