use Rattle.volume_layout.proofs.BlockFileProofs.{paths_are_apart}
use Rattle.volume_layout.proofs.paths.paths_are_apart.Goals as goal

pub returns : goal.returns
returns c = paths_are_apart
