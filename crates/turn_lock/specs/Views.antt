-- What a seat knows, and how one view is cut in two and two are put together.
use Rattle.std.specs.Prelude.{◌≡◌, ℕ, ◌+◌, ◌-◌, ◌*◌, Bool, true, false, cond, List, [], ◌∷◌, ◌++◌, length, Option, Some, None}
use lib.Dec.{leb}
use Rattle.turn_lock.specs.declared.view.Stage.{Stage}
use Rattle.turn_lock.specs.declared.view.Stage.TheVariants.{Empty, Filling, Idle, Drawn, Due, Spent}
use Rattle.turn_lock.specs.declared.view.View.{View}

-- the turn number that a seat at this stage has drawn, until its turn ends
abbrev pub turn_of : Stage → Option ℕ
turn_of (Drawn n) = Some n
turn_of (Due n) = Some n
turn_of _ = None

-- how many turn numbers are out with such a seat
abbrev pub numbers_out : Stage → ℕ
numbers_out (Drawn n) = 1
numbers_out (Due n) = 1
numbers_out _ = 0

-- how many turns such a seat holds
abbrev pub turns_held : Stage → ℕ
turns_held (Due n) = 1
turns_held _ = 0

-- x of a seat that isn't spent, y of a spent one
abbrev pub if_live : {X : Type 0} → Stage → X → X → X
if_live Spent x y = y
if_live _ x y = x

-- the seat wasn't joined to another
abbrev pub is_live : Stage → Bool
is_live Spent = false
is_live _ = true

-- the lock has its first value
abbrev pub is_open : Stage → Bool
is_open Empty = false
is_open Filling = false
is_open _ = true

-- the longer of two beginnings of one list
abbrev pub longer : {E : Type 0} → List E → List E → List E
longer xs ys = cond (leb (length xs) (length ys)) ys xs

module _ {E : Type 0} where
  -- the lists of own entries that the seat keeps, each with its seat number: its own, and those that it got by joins
  abbrev pub own_lists : View E → List (ℕ × List E)
  own_lists v = (v.number, v.own) ∷ v.joined

  -- the same, but a spent seat keeps none
  abbrev pub live_lists : View E → List (ℕ × List E)
  live_lists v = if_live v.stage (own_lists v) []

  -- how many seats it counts for: itself and its spare ones
  abbrev pub members : View E → ℕ
  members v = if_live v.stage (v.spare + 1) 0

  -- the k-th of the numbers, from 0 on, that seats may have which are split off it, or off one of these
  abbrev pub later_number : View E → ℕ → ℕ
  later_number v k = v.number + v.stride * (k + 1)

  -- the same seat at this stage
  abbrev pub at_stage : Stage → View E → View E
  at_stage stage v = record v { stage = stage }

  -- w is v but for this stage and this list seen
  abbrev pub IsSameBut : Stage → List E → View E → View E → Type 0
  IsSameBut stage seen v w = w ≡ record v { stage = stage; seen = seen }

  -- the first seat of a lock for so many seats
  abbrev pub first_seat : ℕ → Stage → List E → View E
  first_seat seats stage seen = record { number = 0; stride = 1; spare = seats - 1; seats = seats; stage = stage; seen = seen; own = []; joined = []; heard = [] }

  -- a seat off which one was split: of the numbers that it might give, the even multiples of its stride are left
  abbrev pub with_one_less : View E → View E
  with_one_less v = record v { spare = v.spare - 1; stride = 2 * v.stride }

  -- the seat that was split off: it has the first odd multiple, and may give the others
  abbrev pub split_off : View E → View E
  split_off v = record { number = v.number + v.stride; stride = 2 * v.stride; spare = 0; seats = v.seats; stage = Idle; seen = v.seen; own = []; joined = []; heard = [] }

  -- a seat to which w was joined: it has seen what either had, and keeps the lists of both
  abbrev pub with_joined : View E → View E → View E
  with_joined v w = record v { spare = v.spare + w.spare + 1; seen = longer v.seen w.seen; joined = v.joined ++ own_lists w; heard = [] }

  -- the same before it has looked: it remembers what each of the two had seen
  abbrev pub just_joined : View E → View E → View E
  just_joined v w = record v { spare = v.spare + w.spare + 1; seen = longer v.seen w.seen; joined = v.joined ++ own_lists w; heard = v.seen ∷ w.seen ∷ [] }

  -- a seat after a tenure that made these entries
  abbrev pub with_own : List E → View E → View E
  with_own made v = record v { stage = Idle; seen = v.seen ++ made; own = v.own ++ made }

  -- what is left of a seat that was joined to another
  abbrev pub spent : View E
  spent = record { number = 0; stride = 0; spare = 0; seats = 0; stage = Spent; seen = []; own = []; joined = []; heard = [] }
