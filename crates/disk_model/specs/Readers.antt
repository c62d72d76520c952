-- What a read of a lent reader gives.
use Rattle.std.specs.Prelude.{◌≡◌, ℕ, ◌<◌, ◌+◌, ◌≤◌, List, length, take, drop, Option, Some}

-- n bytes from an offset on stand at the front of the buffer; none only where the offset is at or past the end
pub record ReadsAt (told : Option (List ℕ)) (at n : ℕ) (out : List ℕ) : Type 0 where
  pub bytes : (all : List ℕ) → told ≡ Some all → take n out ≡ take n (drop at all)
  pub within : (all : List ℕ) → told ≡ Some all → 0 < n → at + n ≤ length all
  pub ended : (all : List ℕ) → told ≡ Some all → n ≡ 0 → 0 < length out → length all ≤ at
