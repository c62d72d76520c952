use Rattle.map_model.proofs.LawProofs as laws
use Rattle.map_model.proofs.steps.steps_are_between.Goals as goal

pub returns : goal.returns
returns c = laws.steps_are_between
