use Rattle.std.proofs.Common.{[], ◌∷◌, refl}
use Rattle.turn_lock.proofs.Steps.{advances_at}
use Rattle.turn_lock.proofs.laws.advancing_keeps_the_rule.Goals as goal

pub returns : goal.returns
returns g c = λ seats id me n x entry due holds names stands. advances_at g.T.Kept.stands_for g.T.Kept.seat_of seats 1 id me n x entry (entry ∷ []) refl due holds refl names stands
