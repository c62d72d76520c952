-- What each kind of step tells its seat: of the seat before, the number found and the seat after. A seat is its view with what it holds of the slot.
use Rattle.std.specs.Prelude.{◌≡◌, ℕ, ◌+◌, ◌≢◌, List, [], ◌∷◌, Option, Some, None}
use mathlib.Core.List.{IsPrefix}
use Rattle.atomic_table.specs.Table.{Me}
use Rattle.turn_lock.specs.declared.view.Stage.TheVariants.{Filling, Idle, Drawn, Due}
use Rattle.turn_lock.specs.declared.view.View.{View}
use Rattle.turn_lock.specs.History.{Each, AreOwn, AreApart, Covers}
use Rattle.turn_lock.specs.Views.{own_lists, at_stage, first_seat, with_own, IsSameBut}

module _ {T E : Type 0} where
  -- the first seat holds the slot, which is empty
  abbrev pub Fills : Me (Option T) (View E) → ℕ → Me (Option T) (View E) → Type 0
  Fills me found after = after ≡ (at_stage Filling me.0, (0, None) ∷ [])

  -- the first seat has seen the opening, which was added
  abbrev pub Opens : List E → Me (Option T) (View E) → ℕ → Me (Option T) (View E) → Type 0
  Opens added me found after = after ≡ (first_seat me.0.seats Idle added, [])

  -- the seat has drawn the number found
  abbrev pub Draws : Me (Option T) (View E) → ℕ → Me (Option T) (View E) → Type 0
  Draws me found after = after ≡ (at_stage (Drawn found) me.0, me.1)

  -- what the seat has seen begins with what it had heard of, and the lists that it keeps are of different seats
  abbrev pub Hears : Me (Option T) (View E) → ℕ → Me (Option T) (View E) → Type 0
  Hears me found after = (after ≡ (record me.0 { heard = [] }, me.1)) × Each (λ l. IsPrefix l me.0.seen) me.0.heard × AreApart (own_lists me.0)

  -- the seat ended a tenure, which added these entries, and holds nothing
  abbrev pub Advances : List E → Me (Option T) (View E) → ℕ → Me (Option T) (View E) → Type 0
  Advances added me found after = after ≡ (with_own added me.0, [])

-- A seat that knew v has seen the whole history `log`. It begins with what the seat had seen. Each list that the seat keeps is just the entries of its seat number, and the lists are of different seats.
-- A seat to which all others were joined had seen the whole history before, and keeps a list for each entry after the opening
pub record SawAll {E : Type 0} (seat_of : E → Option ℕ) (v : View E) (log : List E) : Type 0 where
  pub more : IsPrefix v.seen log
  pub own : AreOwn seat_of log (own_lists v)
  pub apart : AreApart (own_lists v)
  pub alone : v.spare + 1 ≡ v.seats → (log ≡ v.seen) × Covers seat_of (own_lists v) log

module _ {T E : Type 0} (stands_for : T → List E → Type 0) (seat_of : E → Option ℕ) where
  -- the turn of a seat that knew v has come: it holds the slot, whose value stands for the whole history
  abbrev pub ComesDue : ℕ → View E → Me (Option T) (View E) → Type 0
  ComesDue n v after =
      (x : T) × (after.1 ≡ (0, Some x) ∷ []) × stands_for x after.0.seen
      × IsSameBut (Due n) after.0.seen v after.0 × SawAll seat_of v after.0.seen

  -- where the number found is another than the seat drew, nothing has changed; where it is that one, its turn has come
  abbrev pub Looks : Me (Option T) (View E) → ℕ → Me (Option T) (View E) → Type 0
  Looks me found after = (n : ℕ) → me.0.stage ≡ Drawn n → (found ≢ n → after ≡ me) × (found ≡ n → ComesDue n me.0 after)
