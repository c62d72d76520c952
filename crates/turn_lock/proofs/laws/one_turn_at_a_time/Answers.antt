use Rattle.turn_lock.proofs.Turning.{one_due}
use Rattle.turn_lock.proofs.laws.one_turn_at_a_time.Goals as goal

pub returns : goal.returns
returns g c = λ seats s o i j v w n m at there due due'. one_due _ _ _ _ s.views o.turns i j v w n m at there due due'
