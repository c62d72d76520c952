use Rattle.map_model.specs.Sound.{Verifies}
use Rattle.map_model.proofs.Delete.{delete_final_stands}
use Rattle.map_model.proofs.tenures.delete_final_stands.Goals as goal

pub returns : goal.returns
returns c = λ view ticket entry replica after books cell stands deleted. delete_final_stands Verifies view ticket entry replica stands after books cell deleted
