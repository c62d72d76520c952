use Rattle.std.proofs.Common.{take}
use Rattle.turn_lock.specs.Seats.{view, IsSeatOf, IsIdle}
use Rattle.turn_lock.specs.Notes.{Worked}
use Rattle.turn_lock.proofs.notes.add_items.Given as goal

-- the items so far were added
abbrev pub invariant-loop-item : goal.invariant-loop-item
invariant-loop-item g l = IsSeatOf l.lock l.seat × IsIdle l.seat × Worked (take l.item-index l.items) (view l.fn.seat) (view l.seat)
