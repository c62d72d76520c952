use Rattle.client_ops.proofs.Ending.{ends_as_write}
use Rattle.client_ops.proofs.writing.write_is_one_step.Goals as goal

pub returns : goal.returns
returns c = ends_as_write
