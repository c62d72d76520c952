use Rattle.turn_lock.proofs.Steps.{hears}
use Rattle.turn_lock.proofs.laws.hearing_keeps_the_rule.Goals as goal

pub returns : goal.returns
returns g c = λ seats id me idle. hears g.T.Kept.stands_for g.T.Kept.seat_of seats 1 id me idle
