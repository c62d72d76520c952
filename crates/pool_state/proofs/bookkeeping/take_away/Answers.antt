use Rattle.std.proofs.Common.{arith}
use Rattle.pool_state.proofs.bookkeeping.take_away.Goals as goal

pub returns-clause-room : goal.returns-clause-room
returns-clause-room c = omega (arith, c.requires.room, c.remove.ensures.leftovers.1, c.remove.ensures.writing c.args.entry.now c.requires.there)
