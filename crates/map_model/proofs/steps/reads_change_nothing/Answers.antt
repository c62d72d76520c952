use Rattle.map_model.proofs.StepProofs as laws
use Rattle.map_model.proofs.steps.reads_change_nothing.Goals as goal

pub returns : goal.returns
returns c = laws.reads_change_nothing
