use Rattle.plan_tool.proofs.Limits.{rows_within}
use Rattle.plan_tool.proofs.making.steps_over.Goals as goal

pub returns-clause-limits : goal.returns-clause-limits
returns-clause-limits c = rows_within c.args.rows.now _ c.in_ok-steps.steps.items c.requires.rows c.in_ok-report.ensures c.in_ok-steps.ensures.targets
