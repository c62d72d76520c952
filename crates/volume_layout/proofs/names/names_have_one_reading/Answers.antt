use Rattle.volume_layout.proofs.OneName.{one_reading}
use Rattle.volume_layout.proofs.names.names_have_one_reading.Goals as goal

pub returns : goal.returns
returns c = one_reading
