use Rattle.std.proofs.Common.{arith}
use Rattle.density.proofs.Totals.{used_limit}
use Rattle.density.proofs.report.Report.total_used.Goals as goal

pub returns-clause-limit : goal.returns-clause-limit
returns-clause-limit c = let i = c.self.invariant in omega (arith, used_limit _ i.0 i.2)
