use Rattle.map_model.proofs.StepProofs as laws
use Rattle.map_model.proofs.steps.reads_give_the_content.Goals as goal

pub returns : goal.returns
returns c = laws.reads_give_the_content
