-- Some room, for the steps of commands that don't look at it: all but starts.
use Rattle.std.specs.Prelude.{[]}
use Rattle.map_model.specs.Steps.{Room}
use Rattle.pool_state.specs.Rooms.{room_by}

pub any_room : Room
any_room = room_by (record { shares = []; next_rev = 0; pointer = 1 }) (λ vol. 0)
