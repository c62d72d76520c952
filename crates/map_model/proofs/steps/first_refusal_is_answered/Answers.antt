use Rattle.map_model.proofs.StepProofs as laws
use Rattle.map_model.proofs.steps.first_refusal_is_answered.Goals as goal

pub returns : goal.returns
returns c = laws.first_refusal_is_answered
