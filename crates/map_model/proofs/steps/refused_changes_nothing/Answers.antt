use Rattle.map_model.proofs.StepProofs as laws
use Rattle.map_model.proofs.steps.refused_changes_nothing.Goals as goal

pub returns : goal.returns
returns c = laws.refused_changes_nothing
