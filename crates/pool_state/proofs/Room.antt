-- Room in the books for what open writers may leave.
use Rattle.std.proofs.Common.{◌≡◌, ◌≤◌, ◌+◌, ◌*◌, Result, Ok, Err, refl, ap, arith}
use Rattle.std.specs.Prelude.{ℕ, OnOk, Option, None, Some, IsSome}
use Rattle.std.proofs.lemmas.Bool.{false≢true}
use Rattle.replica_map.specs.declared.entry.State.{State}
use Rattle.replica_map.specs.declared.entry.State.TheVariants.{Writing, Waiting}
use Rattle.replica_map.specs.Counting.{writes}
use Rattle.replica_map.specs.Books.{Books, writers}
use Rattle.pool_state.specs.Books.{HasRoomForOne}

-- what is reserved for one more
pub room_for_one : {T E : Type 0} (result : Result T E) (old new : Books) {count : ℕ} → new.rows ≡ old.rows → count ≡ writers old →
    OnOk result ((1 ≤ new.entry_room) × (2 * count + 2 ≤ new.leftover_room)) → OnOk result (HasRoomForOne new)
room_for_one (Ok done) old new same counts reserved =
    (reserved.0, omega (arith, reserved.1, counts, ap (λ rows. writers (record old { rows = rows })) same))
room_for_one (Err fault) old new same counts reserved = reserved

-- an entry that waits has no writer, and one that is written has one
pub waits_writes : (state : State) → state ≡ Waiting → writes state ≡ 0
waits_writes state is = ap writes is

pub writes_one : (state : State) → state ≡ Writing → writes state ≡ 1
writes_one state is = ap writes is

-- an entry that is there
pub some_entry : {X : Type 0} (o : Option X) → IsSome o → (x : X) × (o ≡ Some x)
some_entry None there = absurd (false≢true there)
some_entry (Some x) there = (x, refl)
