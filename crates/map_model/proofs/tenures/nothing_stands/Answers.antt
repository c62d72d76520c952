use Rattle.map_model.specs.Sound.{Verifies}
use Rattle.map_model.proofs.Moments.{nothing_stands}
use Rattle.map_model.proofs.tenures.nothing_stands.Goals as goal

pub returns : goal.returns
returns c = nothing_stands Verifies
