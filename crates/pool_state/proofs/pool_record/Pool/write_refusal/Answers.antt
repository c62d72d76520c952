use Rattle.std.proofs.Common.{sym, ◌∙◌, subst}
use Rattle.replica_map.specs.Books.{grown_at}
use Rattle.pool_state.specs.Answers.{start_fault}
use Rattle.pool_state.specs.Rooms.{room_of}
use Rattle.map_model.specs.Steps.{Step, start_write}
use Rattle.pool_state.proofs.Counted.{counts}
use Rattle.pool_state.proofs.Entries.{nothing_said, agrees_by}
use Rattle.pool_state.proofs.Starting.{refused_step, refused_so, is_absent, memory_step, no_room_step, fits_by}
use Rattle.pool_state.proofs.pool_record.Pool.write_refusal.Goals as goal

pub returns-in-Some-clause-refused : goal.returns-in-Some-clause-refused
returns-in-Some-clause-refused g c cells stamp stands =
    let id = c.args.id in
    let map = c.args.self.now.map in
    let room = room_of c.args.self.now in
    subst (λ f. Step room (cells id) (start_write stamp c.args.need) (start_fault f) (cells id)) (sym c.write_refusal.ensures)
    (refused_step room (cells id) (grown_at map id) c.in-Some.entry stamp c.args.need (agrees_by map id (stands.fit id c.find.ensures.valid) c.in-Some.entry (sym c.find.ensures.value ∙ c.in-Some.is)))

pub returns-in-Some-clause-not_a_fault : goal.returns-in-Some-clause-not_a_fault
returns-in-Some-clause-not_a_fault g c = refused_so c.in-Some.entry.state c.write_refusal.result c.write_refusal.ensures

pub returns-in-None-clause-absent : goal.returns-in-None-clause-absent
returns-in-None-clause-absent g c cells stands same =
    is_absent stands c.args.id c.find.ensures.valid (nothing_said c.args.self.now.map c.args.id (stands.fit c.args.id c.find.ensures.valid) (sym c.find.ensures.value ∙ c.in-None.is))

pub returns-in-None-clause-refused : goal.returns-in-None-clause-refused
returns-in-None-clause-refused g c cells stamp stands =
    let id = c.args.id in
    let none = nothing_said c.args.self.now.map id (stands.fit id c.find.ensures.valid) (sym c.find.ensures.value ∙ c.in-None.is) in
    no_room_step (room_of c.args.self.now) c.args.need stamp (cells id) c.room_refusal.result c.room_refusal.ensures.value (is_absent stands id c.find.ensures.valid none)

pub returns-in-None-clause-fits : goal.returns-in-None-clause-fits
returns-in-None-clause-fits g c same = fits_by (room_of c.args.self.now) c.args.need c.room_refusal.result c.room_refusal.ensures.value same

pub returns-in-None-clause-memory : goal.returns-in-None-clause-memory
returns-in-None-clause-memory g c cells stamp stands same =
    memory_step stands c.args.id c.find.ensures.valid (nothing_said c.args.self.now.map c.args.id (stands.fit c.args.id c.find.ensures.valid) (sym c.find.ensures.value ∙ c.in-None.is)) (room_of c.args.self.now) stamp c.args.need
    (fits_by (room_of c.args.self.now) c.args.need c.room_refusal.result c.room_refusal.ensures.value same)

pub returns-in-Some-clause-counted : goal.returns-in-Some-clause-counted
returns-in-Some-clause-counted g c = counts c.args.self.now.map c.args.self.now.no_moves c.uses_are_sums.ensures

pub returns-in-None-clause-counted : goal.returns-in-None-clause-counted
returns-in-None-clause-counted g c = counts c.args.self.now.map c.args.self.now.no_moves c.uses_are_sums.ensures
