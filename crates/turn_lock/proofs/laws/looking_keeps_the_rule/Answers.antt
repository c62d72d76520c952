use Rattle.turn_lock.proofs.Steps.{looks_at}
use Rattle.turn_lock.proofs.laws.looking_keeps_the_rule.Goals as goal

pub returns : goal.returns
returns g c = λ seats id me n drawn empty. looks_at g.T.Kept.stands_for g.T.Kept.seat_of seats 1 id me n drawn empty
