use Rattle.map_model.proofs.StepProofs as laws
use Rattle.map_model.proofs.steps.pushes_keep_the_writer.Goals as goal

pub returns : goal.returns
returns c = laws.pushes_keep_the_writer
