use Rattle.std.proofs.Common.{arith}
use Rattle.pool_state.proofs.Room.{writes_one}
use Rattle.pool_state.proofs.bookkeeping.add_writer.Goals as goal

pub returns-clause-room : goal.returns-clause-room
returns-clause-room c = omega (
  arith,
  c.requires.room.1,
  c.add.ensures.leftover_room,
  c.add.ensures.writing,
  writes_one c.args.entry.state c.requires.state,
  c.set_grown.ensures.writing,
  c.set_grown.ensures.leftovers.1,
)
