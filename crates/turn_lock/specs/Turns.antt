-- A turn as contracts see it.
use Rattle.turn_lock.specs.declared.turn.Turn.{Turn}

-- the value that the turn holds
abbrev pub turn_value : {T : Type 0} → Turn T → T
turn_value t = t.value
