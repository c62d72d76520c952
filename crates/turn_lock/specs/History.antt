-- A history is a list of entries: the opening, which names no seat, and then one entry for each tenure, which names the seat that made it.
use Rattle.std.specs.Prelude.{◌≡◌, ℕ, ◌+◌, ◌<◌, ◌≤◌, ◌==◌, Bool, false, cond, List, [], ◌∷◌, filter, Option, Some, None}

-- the sum of f over a list
abbrev pub total : {X : Type 0} → (X → ℕ) → List X → ℕ
total f [] = 0
total f (x ∷ xs) = f x + total f xs

-- P holds of each element
abbrev pub Each : {X : Type 0} → (X → Type 0) → List X → Type 0
Each P [] = Unit {0}
Each P (x ∷ xs) = P x × Each P xs

-- what comes after the opening
abbrev pub after_opening : {E : Type 0} → List E → List E
after_opening [] = []
after_opening (e ∷ es) = es

-- whether the seat number of an entry, if it has one, is n
abbrev pub is_number : ℕ → Option ℕ → Bool
is_number n None = false
is_number n (Some m) = m == n

-- how many lists are kept for the seat number n
abbrev pub times : {E : Type 0} → ℕ → List (ℕ × List E) → ℕ
times n [] = 0
times n (p ∷ ps) = cond (p.0 == n) 1 0 + times n ps

-- the lists are of different seat numbers
abbrev pub AreApart : {E : Type 0} → List (ℕ × List E) → Type 0
AreApart lists = (n : ℕ) → times n lists ≤ 1

module _ {E : Type 0} (seat_of : E → Option ℕ) where
  -- the entries that name the seat n, in their order
  abbrev pub entries_of : ℕ → List E → List E
  entries_of n log = filter (λ e. is_number n (seat_of e)) log

  -- each list has just the entries of its seat number, in their order
  abbrev pub AreOwn : List E → List (ℕ × List E) → Type 0
  AreOwn log lists = Each (λ p. p.1 ≡ entries_of p.0 log) lists

  -- each entry after the opening names a seat number for which a list is kept, and so stands in that list
  abbrev pub Covers : List (ℕ × List E) → List E → Type 0
  Covers lists log = Each (λ e. (n : ℕ) × (seat_of e ≡ Some n) × (0 < times n lists)) (after_opening log)
