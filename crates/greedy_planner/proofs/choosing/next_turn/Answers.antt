use Rattle.std.proofs.Common.{◌∙◌, sym}
use Rattle.greedy_planner.proofs.Order.{none_left}
use Rattle.greedy_planner.proofs.choosing.next_turn.Goals as goal

pub unreachable-requires : goal.unreachable-requires
unreachable-requires c = none_left c.args.totals.now c.args.threshold c.args.volumes.now c.in_default.ensures (sym c.goes_on.ensures ∙ c.if-not-goes_on.false)
