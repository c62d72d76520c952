use Rattle.std.proofs.Common.{◌≡◌, None, ap, sym, ◌∙◌, arith}
use Rattle.std.specs.Prelude.{is_some}
use Rattle.std.proofs.lemmas.Bool.{false≢true}
use Rattle.replica_map.specs.Books.{used}
use Rattle.pool_state.specs.Rooms.{choosing_of, first_fitting}
use Rattle.pool_state.proofs.Drawing.{fitting_placed, some_fitting}
use Rattle.pool_state.proofs.pool_record.Pool.choose_volume.Goals as goal

pub returns-in-Some-clause-placed : goal.returns-in-Some-clause-placed
returns-in-Some-clause-placed g c =
    fitting_placed (λ vol. used vol c.args.self.now.map) c.args.need c.args.self.now.pointer c.args.self.now.shares.items c.in-Some.vol _
    c.args.self.now.pointed.0 c.args.self.now.shared (sym c.first_fitting.ensures ∙ c.in-Some.is)

pub unreachable-requires : goal.unreachable-requires
unreachable-requires g c =
    let some = some_fitting (choosing_of c.args.self.now) (λ vol. used vol c.args.self.now.map) c.args.need (omega (arith, c.args.self.now.shared, c.args.self.now.some_volume)) c.requires.fits in
    let none : first_fitting (λ vol. used vol c.args.self.now.map) c.args.need 1 c.args.self.now.shares.items ≡ None = sym c.first_fitting-2.ensures ∙ c.in-None.is in
    false≢true (sym (ap is_some none) ∙ some)

pub returns-clause-placed : goal.returns-clause-placed
returns-clause-placed g c =
    fitting_placed (λ vol. used vol c.args.self.now.map) c.args.need 1 c.args.self.now.shares.items c.in-Some-first_fitting.vol _
    (omega arith) c.args.self.now.shared (sym c.first_fitting-2.ensures ∙ c.in-Some-first_fitting.is)
