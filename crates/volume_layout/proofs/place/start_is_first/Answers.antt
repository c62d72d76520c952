use Rattle.volume_layout.proofs.PlaceProofs.{start_is_first}
use Rattle.volume_layout.proofs.place.start_is_first.Goals as goal

pub returns : goal.returns
returns c = start_is_first
