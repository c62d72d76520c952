use Rattle.map_model.proofs.StepProofs as laws
use Rattle.map_model.proofs.steps.only_own_cells_change.Goals as goal

pub returns : goal.returns
returns c = laws.only_own_cells_change
