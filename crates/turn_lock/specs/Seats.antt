-- The words of the lock's contracts: what a seat knows, and where it stands.
use Rattle.std.specs.Prelude.{◌≡◌, ℕ, [], ◌∷◌, Option, None}
use Rattle.atomic_table.specs.Seated.{TableId}
use Rattle.atomic_table.specs.declared.shared.Seat.{Seat}
use Rattle.turn_lock.specs.declared.view.Stage.TheVariants.{Idle, Due}
use Rattle.turn_lock.specs.declared.view.View.{View}

-- a lock has two words and one slot
abbrev pub IsTurnTable : TableId → Type 0
IsTurnTable id = (id.words ≡ 2) × (id.slots ≡ 1)

module _ {T E : Type 0} where
  -- what the seat knows
  abbrev pub view : Seat (Option T) (View E) → View E
  view s = s.me.0

  -- it is a seat of this lock
  abbrev pub IsSeatOf : TableId → Seat (Option T) (View E) → Type 0
  IsSeatOf lock s = s.table_id ≡ lock

  -- it has this view and holds no turn
  abbrev pub IsSeat : View E → Seat (Option T) (View E) → Type 0
  IsSeat v s = s.me ≡ (v, [])

  -- it holds no turn
  abbrev pub IsIdle : Seat (Option T) (View E) → Type 0
  IsIdle s = (s.me.0.stage ≡ Idle) × (s.me.1 ≡ [])

  -- it holds a turn, so the slot is empty and out with it
  abbrev pub HoldsTurn : Seat (Option T) (View E) → Type 0
  HoldsTurn s = (n : ℕ) × (s.me.0.stage ≡ Due n) × (s.me.1 ≡ (0, None) ∷ [])
