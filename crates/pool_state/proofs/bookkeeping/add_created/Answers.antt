use Rattle.std.proofs.Common.{arith}
use Rattle.pool_state.proofs.Room.{waits_writes}
use Rattle.pool_state.proofs.bookkeeping.add_created.Goals as goal

pub hold_block-requires : goal.hold_block-requires
hold_block-requires c = record { spare = omega (arith, c.requires.room.1, c.add.ensures.leftover_room) }

pub hold_meta-requires : goal.hold_meta-requires
hold_meta-requires c = record { spare = omega (arith, c.requires.room.1, c.add.ensures.leftover_room, c.hold_block.ensures.leftover_room) }

pub returns-clause-room : goal.returns-clause-room
returns-clause-room c = omega (
  arith,
  c.requires.room.1,
  c.add.ensures.leftover_room,
  c.add.ensures.writing,
  waits_writes c.args.entry.now.state c.requires.state,
  c.hold_block.ensures.writing,
  c.hold_block.ensures.leftover_room,
  c.hold_meta.ensures.writing,
  c.hold_meta.ensures.leftover_room,
)
