use Rattle.std.proofs.Common.{rules}
use Rattle.turn_lock.proofs.Opening.{fills_at, opens_from}
use Rattle.turn_lock.proofs.serving.open.Goals as goal

pub load-requires : goal.load-requires
load-requires g c = (search rules, search rules, fills_at _ _ _ _ _ _ c.requires.seat.1)

pub load-requires-2 : goal.load-requires-2
load-requires-2 g c =
    let o = c.requires.opening in
    (search rules, search rules, opens_from _ _ _ _ _ _ _ _ c.args.value o.0 _ c.requires.seats.0 c.requires.seats.1 c.requires.seat.1 c.load.ensures.2 c.exchange.ensures.3 o.1 o.2 o.3)
