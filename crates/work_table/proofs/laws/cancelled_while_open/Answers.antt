use Rattle.work_table.proofs.Cancelling.{cancelled_while_open}
use Rattle.work_table.proofs.laws.cancelled_while_open.Goals as goal

pub returns : goal.returns
returns c = cancelled_while_open
