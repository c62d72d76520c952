use Rattle.turn_lock.specs.Notes.{call_of}
use Rattle.turn_lock.proofs.notes.add_item.Given as goal

-- the entry of this call
abbrev pub ghost-put_back : goal.ghost-put_back
ghost-put_back g a = call_of a.seat.now.me.0.number a.item a.kept
