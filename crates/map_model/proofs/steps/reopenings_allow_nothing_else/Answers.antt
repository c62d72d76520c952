use Rattle.map_model.proofs.StepProofs as laws
use Rattle.map_model.proofs.steps.reopenings_allow_nothing_else.Goals as goal

pub returns : goal.returns
returns c = laws.reopenings_allow_nothing_else
