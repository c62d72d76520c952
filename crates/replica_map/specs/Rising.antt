-- Lists whose keys rise.
use Rattle.std.specs.Prelude.{ℕ, ◌≡◌, ◌<◌, ◌≤◌, ◌==◌, nat_le, nat_lt, if◌then◌else◌, Bool, ◌&&◌, List, length, slice_index_or, find, sum_by, count_by, Option, MatchOption}

-- the items of a vector, and how many it has room for
pub record Stored (X : Type 0) : Type 0 where
  pub items : List X
  pub capacity : ℕ

module _ {X : Type 0} (key : X → ℕ) where
  -- each key is below all later ones
  abbrev pub Rises : List X → Type 0
  Rises xs = (i j : ℕ) (d : X) → i < j → j < length xs → key (slice_index_or xs i d) < key (slice_index_or xs j d)

  -- whether the item has this key
  abbrev pub has_key : ℕ → X → Bool
  has_key k x = key x == k

  -- the item with a key becomes this one, those with others stay
  abbrev pub PutsItem : ℕ → Option X → List X → List X → Type 0
  PutsItem k item old new = (other : ℕ) → find (has_key other) new ≡ (if other == k then item else find (has_key other) old)

  -- the keys before a place are below k, and those from it on aren't
  pub record IsPlace (xs : List X) (k at : ℕ) : Type 0 where
    pub within : at ≤ length xs
    pub before : (i : ℕ) (d : X) → i < at → key (slice_index_or xs i d) < k
    pub from : (i : ℕ) (d : X) → at ≤ i → i < length xs → k ≤ key (slice_index_or xs i d)

  -- how many keys there are from low on and below high
  abbrev pub count_between : ℕ → ℕ → List X → ℕ
  count_between low high xs = count_by (λ y. nat_le low (key y) && nat_lt (key y) high) xs

  -- how many keys there are from low on
  abbrev pub count_from : ℕ → List X → ℕ
  count_from low xs = count_by (λ y. nat_le low (key y)) xs

  -- the first item whose key isn't below k: it is one of them, and no key is from k on and below its own
  abbrev pub IsFirstFrom : List X → ℕ → Option X → Type 0
  IsFirstFrom xs k first = MatchOption first (count_from k xs ≡ 0)
      (λ x. ((f : X → ℕ) → f x ≤ sum_by f xs) × (k ≤ key x) × (count_between k (key x) xs ≡ 0))
