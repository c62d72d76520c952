use Rattle.pool_state.proofs.Room.{room_for_one}
use Rattle.pool_state.proofs.bookkeeping.make_room.Goals as goal

pub returns-clause-ok : goal.returns-clause-ok
returns-clause-ok c = room_for_one c.reserve.result c.args.map.now c.reserve.new.self c.reserve.ensures.rows c.writing_count-writers.ensures.count c.reserve.ensures.ok
