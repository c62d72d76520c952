use Rattle.std.proofs.Common.{arith}
use Rattle.pool_state.proofs.Room.{writes_one}
use Rattle.pool_state.proofs.bookkeeping.give_up_meta.Goals as goal

pub hold_meta-requires : goal.hold_meta-requires
hold_meta-requires c = record {
  spare = omega (arith, c.requires.room, c.put.ensures.leftover_room, c.put.ensures.writing c.args.entry.now c.requires.there, writes_one c.args.entry.now.state c.requires.state);
}

pub returns-clause-room : goal.returns-clause-room
returns-clause-room c = omega (
  arith,
  c.requires.room,
  c.put.ensures.leftover_room,
  c.put.ensures.writing c.args.entry.now c.requires.there,
  writes_one c.args.entry.now.state c.requires.state,
  c.hold_meta.ensures.leftover_room,
  c.hold_meta.ensures.writing,
)
