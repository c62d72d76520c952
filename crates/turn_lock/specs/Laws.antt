-- Laws of the lock. Each kind of step keeps the rule; at most one seat has its turn; seats have different numbers; and what a history makes of a value where all other entries are quiet.
use Rattle.std.specs.Prelude.{◌≡◌, ◌≢◌, ◌⊎◌, ℕ, ◌+◌, ◌%◌, ◌^◌, ◌<◌, List, [], ◌∷◌, ◌++◌, Option, Some, None}
use Rattle.atomic_table.specs.Table.{State, Me, Allows, Splits, Joins}
use Rattle.turn_lock.specs.declared.view.Stage.TheVariants.{Filling, Idle, Drawn, Due}
use Rattle.turn_lock.specs.declared.view.View.{View}
use Rattle.turn_lock.specs.History.{Each, AreOwn, Covers}
use Rattle.turn_lock.specs.Views.{later_number, first_seat, with_one_less, split_off, just_joined, spent}
use Rattle.turn_lock.specs.Rule.{IsAt, Opened, Holds, unopened}
use Rattle.turn_lock.specs.Steps.{Fills, Opens, Draws, Looks, Advances, Hears}

module _ {T E : Type 0} (stands_for : T → List E → Type 0) (seat_of : E → Option ℕ) where
  -- fill: the first seat loads the number that is served, and takes the slot of a lock that has no value yet
  abbrev pub FillingKeeps : Type 0
  FillingKeeps = (seats id : ℕ) (me : Me (Option T) (View E)) → me ≡ (unopened seats, [])
      → Allows (Holds stands_for seat_of seats) 1 id me 1 (λ n. n) (Fills me)

  -- open: it loads that number again, and gives the slot with a value that stands for the opening
  abbrev pub OpeningKeeps : Type 0
  OpeningKeeps = (seats id : ℕ) (me : Me (Option T) (View E)) (x : T) (opening : E) → 0 < seats → seats < 2 ^ 32
      → me ≡ (first_seat seats Filling [], (0, Some x) ∷ []) → stands_for x (opening ∷ []) → seat_of opening ≡ None
      → Allows (Holds stands_for seat_of seats) 1 id me 1 (λ n. n) (Opens (opening ∷ []) me)

  -- draw: an idle seat adds 1 to the next turn number
  abbrev pub DrawingKeeps : Type 0
  DrawingKeeps = (seats id : ℕ) (me : Me (Option T) (View E)) → me.0.stage ≡ Idle
      → Allows (Holds stands_for seat_of seats) 1 id me 0 (λ n. (n + 1) % 2 ^ 64) (Draws me)

  -- look: a seat that has drawn a number loads the one that is served, and takes the slot where it is the same
  abbrev pub LookingKeeps : Type 0
  LookingKeeps = (seats id : ℕ) (me : Me (Option T) (View E)) (n : ℕ) → me.0.stage ≡ Drawn n → me.1 ≡ []
      → Allows (Holds stands_for seat_of seats) 1 id me 1 (λ m. m) (Looks stands_for seat_of me)

  -- advance: the seat whose turn it is gives the slot, with a value that stands for the history and one more entry, of this seat, and adds 1 to the number that is served
  abbrev pub AdvancingKeeps : Type 0
  AdvancingKeeps = (seats id : ℕ) (me : Me (Option T) (View E)) (n : ℕ) (x : T) (entry : E) → me.0.stage ≡ Due n → me.1 ≡ (0, Some x) ∷ []
      → seat_of entry ≡ Some me.0.number → stands_for x (me.0.seen ++ entry ∷ [])
      → Allows (Holds stands_for seat_of seats) 1 id me 1 (λ m. (m + 1) % 2 ^ 64) (Advances (entry ∷ []) me)

  -- split: an idle seat that has spare seats is cut in two
  abbrev pub SplittingKeeps : Type 0
  SplittingKeeps = (seats id : ℕ) (v : View E) → v.stage ≡ Idle → 0 < v.spare
      → Splits (Holds {T = T} stands_for seat_of seats) id v (with_one_less v) (split_off v)

  -- join: an idle seat takes in another idle one, which is spent
  abbrev pub JoiningKeeps : Type 0
  JoiningKeeps = (seats id other : ℕ) (v w : View E) → v.stage ≡ Idle → w.stage ≡ Idle
      → Joins (Holds {T = T} stands_for seat_of seats) id v other w (just_joined v w) spent

  -- hear: the seat that stays after a join loads the number that is served
  abbrev pub HearingKeeps : Type 0
  HearingKeeps = (seats id : ℕ) (me : Me (Option T) (View E)) → me.0.stage ≡ Idle
      → Allows (Holds stands_for seat_of seats) 1 id me 1 (λ n. n) (Hears me)

  -- of a lock that has its value, at most one seat has its turn
  abbrev pub OneTurnAtATime : Type 0
  OneTurnAtATime = (seats : ℕ) (s : State (Option T) (View E)) → Opened stands_for seat_of seats s
      → (i j : ℕ) (v w : View E) (n m : ℕ) → IsAt s.views i v → IsAt s.views j w → v.stage ≡ Due n → w.stage ≡ Due m → i ≡ j

module _ {E : Type 0} where
  -- n is the seat's number, or one that may be given to a seat that is split off it or off one of these
  abbrev pub MayHave : View E → ℕ → Type 0
  MayHave v n = (n ≡ v.number) ⊎ ((k : ℕ) × (n ≡ later_number v k))

-- the two parts of a split seat, and all that may be split off them, have different numbers, which the seat might have given
abbrev pub PartsAreApart : Type 0 → Type 0
PartsAreApart E = (v : View E) (n m : ℕ) → 0 < v.stride → MayHave (with_one_less v) n → MayHave (split_off v) m
    → (n ≢ m) × MayHave v n × MayHave v m

-- what the steps of these entries make of s
abbrev pub replay : {S E : Type 0} → (S → E → S) → S → List E → S
replay step s [] = s
replay step s (e ∷ es) = replay step (step s e) es

-- the step of the entry changes nothing
abbrev pub IsQuiet : {S E : Type 0} → (S → E → S) → E → Type 0
IsQuiet {S} step e = (s : S) → step s e ≡ s

-- Of a history whose entries all stand in the lists of one seat: where the entries in the lists that it got by joins are quiet, replaying the history is replaying the seat's own entries
abbrev pub OwnEntriesSuffice : (S : Type 0) {E : Type 0} → (E → Option ℕ) → Type 0
OwnEntriesSuffice S {E} seat_of =
    (step : S → E → S) (first : E) (later : List E) (number : ℕ) (own : List E) (joined : List (ℕ × List E)) → seat_of first ≡ None
    → AreOwn seat_of (first ∷ later) ((number, own) ∷ joined) → Covers seat_of ((number, own) ∷ joined) (first ∷ later)
    → Each (λ p. Each (IsQuiet step) p.1) joined → (s : S) → replay step s later ≡ replay step s own
