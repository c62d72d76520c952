use Rattle.turn_lock.proofs.Steps.{splits}
use Rattle.turn_lock.proofs.laws.splitting_keeps_the_rule.Goals as goal

pub returns : goal.returns
returns g c = λ seats id v idle more. splits g.T.Kept.stands_for g.T.Kept.seat_of seats id v idle more
