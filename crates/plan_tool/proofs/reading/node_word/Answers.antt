use Rattle.plan_tool.proofs.Nodes.{node_name_refused}
use Rattle.plan_tool.proofs.reading.node_word.Goals as goal

pub returns-in-Err : goal.returns-in-Err
returns-in-Err c = node_name_refused c.args.word.now c.in-Err.ensures.cases.0
