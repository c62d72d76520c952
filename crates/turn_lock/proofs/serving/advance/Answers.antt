use Rattle.std.proofs.Common.{rules}
use Rattle.turn_lock.proofs.Steps.{advances_from}
use Rattle.turn_lock.proofs.serving.advance.Goals as goal

pub fetch_add-requires : goal.fetch_add-requires
fetch_add-requires g c =
    let put = c.exchange.ensures in
    let e = c.requires.entry in
    let turn = c.requires.seat.1 in
    (search rules, search rules, advances_from _ _ _ _ _ c.args.seat.now.me _ turn.0 c.args.turn.value e.0 _ c.requires.table.1 turn.1 turn.2 put.3 e.1 e.3 e.2)
