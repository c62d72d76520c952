use Rattle.turn_lock.proofs.Steps.{joins}
use Rattle.turn_lock.proofs.laws.joining_keeps_the_rule.Goals as goal

pub returns : goal.returns
returns g c = λ seats id other v w idle idle'. joins g.T.Kept.stands_for g.T.Kept.seat_of seats id other v w idle idle'
