use Rattle.std.proofs.Common.{rules, arith}
use Rattle.turn_lock.proofs.Calls.{worked_more}
use Rattle.turn_lock.proofs.notes.add_items.Goals as goal

pub loop-item-preserved : goal.loop-item-preserved
loop-item-preserved g c = (
  search rules,
  search rules,
  worked_more c.args.items.now c.loop-item.item-index _ _ c.args.seat.me.0 c.loop-item.seat.me.0 c.add_item.new.seat.me.0 (omega arith) c.loop-item.invariant.2 c.add_item.ensures.own,
)
