use Rattle.volume_layout.proofs.PlaceProofs.{places_apart}
use Rattle.volume_layout.proofs.place.places_are_apart.Goals as goal

pub returns : goal.returns
returns c = places_apart
