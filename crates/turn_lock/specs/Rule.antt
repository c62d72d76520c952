-- The lock's rule, of its two words, its slot and the views of all seats.
use Rattle.std.specs.Prelude.{◌≡◌, ℕ, ◌+◌, ◌%◌, ◌^◌, ◌<◌, ◌≤◌, ◌≢◌, ◌⊎◌, true, List, [], ◌∷◌, length, slice_index, Option, Some, None}
use mathlib.Core.Option.{none, some}
use mathlib.Core.List.{IsPrefix}
use lib.ListN.{get_elem?}
use Rattle.atomic_table.specs.Table.{State, opening}
use Rattle.turn_lock.specs.declared.view.Stage.TheVariants.{Empty, Filling, Due}
use Rattle.turn_lock.specs.declared.view.View.{View}
use Rattle.turn_lock.specs.History.{total, times, AreOwn, Each}
use Rattle.turn_lock.specs.Views.{turn_of, numbers_out, turns_held, is_live, is_open, own_lists, live_lists, members, later_number, first_seat}

module _ {E : Type 0} where
  -- how many turn numbers are out
  abbrev pub out : List (View E) → ℕ
  out views = total (λ v. numbers_out v.stage) views

  -- how many seats have their turn
  abbrev pub in_turn : List (View E) → ℕ
  in_turn views = total (λ v. turns_held v.stage) views

  -- how many lists are kept for the seat number n
  abbrev pub kept_for : ℕ → List (View E) → ℕ
  kept_for n views = total (λ v. times n (live_lists v)) views

  -- as many lists are kept as seats were made, each of which has a view
  abbrev pub AllListsStay : List (View E) → Type 0
  AllListsStay views = total (λ v. length (live_lists v)) views ≡ length views

  -- the seat i has the view v
  abbrev pub IsAt : List (View E) → ℕ → View E → Type 0
  IsAt views i v = get_elem? views i ≡ some v

  -- it wasn't joined to another seat
  abbrev pub Live : View E → Type 0
  Live v = is_live v.stage ≡ true

-- How many seats there are. Of a lock for `seats` seats:
pub record Counted {E : Type 0} (seats : ℕ) (views : List (View E)) : Type 0 where
  pub few : seats < 2 ^ 32
  -- the seats that aren't spent, with their spare ones, are as many
  pub in_all : total members views ≡ seats
  -- and each of them knows how many
  pub known : (i : ℕ) (v : View E) → IsAt views i v → Live v → v.seats ≡ seats

-- The turn numbers. After so many tenures, where the history is `log`:
pub record TurnsRun {E : Type 0} (tenures served next : ℕ) (log : List E) (views : List (View E)) : Type 0 where
  -- `served` counts the tenures, and `next` is as far behind as numbers are out, modulo 2^64
  pub served_is : served ≡ tenures % 2 ^ 64
  pub next_is : next ≡ (tenures + out views) % 2 ^ 64
  -- the numbers that are out run from `served` to before `next`, and are distinct
  pub run : (i : ℕ) (v : View E) → IsAt views i v → (n : ℕ) → turn_of v.stage ≡ Some n → (k : ℕ) × (k < out views) × (n ≡ (tenures + k) % 2 ^ 64)
  pub distinct : (i j : ℕ) (v w : View E) → i ≢ j → IsAt views i v → IsAt views j w → (n : ℕ) → turn_of v.stage ≡ Some n → turn_of w.stage ≢ Some n
  -- a seat whose turn it is has the number that is served, and has seen the whole history
  pub due : (i : ℕ) (v : View E) → IsAt views i v → (n : ℕ) → v.stage ≡ Due n → (n ≡ served) × (v.seen ≡ log)

-- What the seats have seen. Where the history is `log`:
pub record AllSee {E : Type 0} (log : List E) (views : List (View E)) : Type 0 where
  pub opened : (i : ℕ) (v : View E) → IsAt views i v → is_open v.stage ≡ true
  -- what a seat has seen begins the history
  pub begins : (i : ℕ) (v : View E) → IsAt views i v → Live v → IsPrefix v.seen log
  -- what it heard of in a join begins what it has seen
  pub heard : (i : ℕ) (v : View E) → IsAt views i v → Live v → Each (λ l. IsPrefix l v.seen) v.heard
  -- some seat has seen it all
  pub one_saw_all : (i : ℕ) × (v : View E) × IsAt views i v × Live v × (v.seen ≡ log)

-- The seat numbers, those that were made and those that may still be given:
pub record NumbersApart {E : Type 0} (views : List (View E)) : Type 0 where
  -- no number's list is kept twice
  pub once : (n : ℕ) → kept_for n views ≤ 1
  pub stride : (i : ℕ) (v : View E) → IsAt views i v → Live v → 0 < v.stride
  -- none is kept for a number that a seat may still give
  pub not_made : (i : ℕ) (v : View E) → IsAt views i v → Live v → (k : ℕ) → kept_for (later_number v k) views ≡ 0
  -- no two seats may give one number
  pub apart : (i j : ℕ) (v w : View E) → i ≢ j → IsAt views i v → IsAt views j w → Live v → Live w → (k l : ℕ) → later_number v k ≢ later_number w l

-- The lists of own entries. Where the history is `first`, the opening, and then the entries `later`:
pub record ListsKept {E : Type 0} (seat_of : E → Option ℕ) (first : E) (later : List E) (views : List (View E)) : Type 0 where
  pub opening : seat_of first ≡ None
  -- each list that a seat keeps is just the entries of its seat number, in their order
  pub own : (i : ℕ) (v : View E) → IsAt views i v → Live v → AreOwn seat_of (first ∷ later) (own_lists v)
  -- each entry after the opening names a seat number whose list is kept
  pub all_kept : Each (λ e. (n : ℕ) × (seat_of e ≡ Some n) × (0 < kept_for n views)) later

module _ {T E : Type 0} where
  -- the next turn number
  abbrev pub next : State (Option T) (View E) → ℕ
  next s = slice_index s.words 0

  -- the turn number that is served
  abbrev pub served : State (Option T) (View E) → ℕ
  served s = slice_index s.words 1

  -- while it is no seat's turn, the slot is at home, and its value stands for the history
  abbrev pub AtRest : (T → List E → Type 0) → List E → State (Option T) (View E) → Type 0
  AtRest stands_for log s = in_turn s.views ≡ 0 → (x : T) × (get_elem? s.homes 0 ≡ some (some (Some x))) × stands_for x log

  -- while it is a seat's turn, the slot is out with that seat, and so only that seat moves it
  abbrev pub OutAtTurn : State (Option T) (View E) → Type 0
  OutAtTurn s = 0 < in_turn s.views → get_elem? s.homes 0 ≡ some none

-- a lock that has its value. Its history is the opening, and then one entry for each tenure
pub record Opened {T E : Type 0} (stands_for : T → List E → Type 0) (seat_of : E → Option ℕ) (seats : ℕ) (s : State (Option T) (View E)) : Type 0 where
  pub first : E
  pub later : List E
  pub two_words : length s.words ≡ 2
  pub counted : Counted seats s.views
  pub turns : TurnsRun (length later) (served s) (next s) (first ∷ later) s.views
  pub at_rest : AtRest stands_for (first ∷ later) s
  pub at_turn : OutAtTurn s
  pub all_see : AllSee (first ∷ later) s.views
  pub numbers : NumbersApart s.views
  pub stay : AllListsStay s.views
  pub lists : ListsKept seat_of first later s.views

-- the first seat of a lock that has no value yet
abbrev pub unopened : {E : Type 0} → ℕ → View E
unopened seats = first_seat seats Empty []

-- a lock that has no value yet: its slot is empty, and at home or with the first seat
abbrev pub Unopened : {T E : Type 0} → ℕ → State (Option T) (View E) → Type 0
Unopened seats s =
    (s ≡ opening (0 ∷ 0 ∷ []) (None ∷ []) (unopened seats))
    ⊎ (s ≡ record { words = 0 ∷ 0 ∷ []; homes = none ∷ []; views = first_seat seats Filling [] ∷ [] })

-- the rule of a lock for so many seats
abbrev pub Holds : {T E : Type 0} → (T → List E → Type 0) → (E → Option ℕ) → ℕ → State (Option T) (View E) → Type 0
Holds stands_for seat_of seats s = Unopened seats s ⊎ Opened stands_for seat_of seats s
