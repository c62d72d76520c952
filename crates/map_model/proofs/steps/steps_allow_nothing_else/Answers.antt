use Rattle.map_model.proofs.StepProofs as laws
use Rattle.map_model.proofs.steps.steps_allow_nothing_else.Goals as goal

pub returns : goal.returns
returns c = laws.steps_allow_nothing_else
