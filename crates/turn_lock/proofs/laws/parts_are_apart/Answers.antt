use Rattle.turn_lock.proofs.Parts.{parts_apart}
use Rattle.turn_lock.proofs.laws.parts_are_apart.Goals as goal

pub returns : goal.returns
returns g c = parts_apart
