use Rattle.volume_layout.proofs.BlockFileProofs.{files_aside}
use Rattle.volume_layout.proofs.paths.unfinished_files_are_aside.Goals as goal

pub returns : goal.returns
returns c = files_aside
