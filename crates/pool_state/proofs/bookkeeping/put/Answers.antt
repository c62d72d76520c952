use Rattle.std.proofs.Common.{arith}
use Rattle.pool_state.proofs.Room.{some_entry}
use Rattle.pool_state.proofs.bookkeeping.put.Goals as goal

pub returns-clause-room : goal.returns-clause-room
returns-clause-room c idle room =
    let was = some_entry _ c.requires.present in
    omega (arith, room, idle, c.change.ensures.writing was.0 was.1, c.set_grown.ensures.writing, c.change.ensures.leftovers.1, c.set_grown.ensures.leftovers.1)
