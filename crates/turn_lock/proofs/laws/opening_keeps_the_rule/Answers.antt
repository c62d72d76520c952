use Rattle.std.proofs.Common.{[], ◌∷◌, refl}
use Rattle.turn_lock.proofs.Opening.{opens_at}
use Rattle.turn_lock.proofs.laws.opening_keeps_the_rule.Goals as goal

pub returns : goal.returns
returns g c = λ seats id me x opening more few is stands no_seat. opens_at g.T.Kept.stands_for g.T.Kept.seat_of seats 1 id me x opening (opening ∷ []) more few is refl stands no_seat
