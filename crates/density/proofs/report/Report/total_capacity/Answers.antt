use Rattle.std.proofs.Common.{arith}
use Rattle.density.proofs.Totals.{capacity_limit}
use Rattle.density.proofs.report.Report.total_capacity.Goals as goal

pub returns-clause-limit : goal.returns-clause-limit
returns-clause-limit c = let i = c.self.invariant in omega (arith, capacity_limit _ i.0 i.2)
