use Rattle.turn_lock.proofs.Opening.{fills_at}
use Rattle.turn_lock.proofs.laws.filling_keeps_the_rule.Goals as goal

pub returns : goal.returns
returns g c = λ seats id me is. fills_at g.T.Kept.stands_for g.T.Kept.seat_of seats 1 id me is
