use Rattle.map_model.proofs.StepProofs as laws
use Rattle.map_model.proofs.steps.appends_are_read_back.Goals as goal

pub returns : goal.returns
returns c = laws.appends_are_read_back
