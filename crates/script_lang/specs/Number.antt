-- Numbers in texts: decimal, without leading zeros.
use Rattle.std.specs.Prelude.{ℕ, ◌+◌, ◌-◌, ◌*◌, ◌^◌, ◌<◌, ◌≤◌, ◌==◌, ◌&&◌, nat_lt, nat_le, Bool, false, if◌then◌else◌, List, [], ◌∷◌, Option, Some, None, option_and_then}
use Rattle.std.specs.Char.{is_ascii_digit}

-- the number that digits write behind those of n
abbrev pub number_behind : ℕ → List ℕ → Option ℕ
number_behind n [] = Some n
number_behind n (digit ∷ digits) = if is_ascii_digit digit then number_behind (n * 10 + (digit - 48)) digits else None

-- more than one byte, the first of them a zero
abbrev pub has_leading_zero : List ℕ → Bool
has_leading_zero [] = false
has_leading_zero (c ∷ []) = false
has_leading_zero (c ∷ d ∷ word) = c == 48

-- the number, where it is from `low` on and below `high`
abbrev pub within : ℕ → ℕ → ℕ → Option ℕ
within low high n = if nat_le low n && nat_lt n high then Some n else None

-- the number below 2^64 that digits write
abbrev pub digits_number : List ℕ → Option ℕ
digits_number digits = option_and_then (within 0 (2 ^ 64)) (number_behind 0 digits)

-- the number below 2^64 that a word writes
abbrev pub number_of : List ℕ → Option ℕ
number_of [] = None
number_of (c ∷ word) = if has_leading_zero (c ∷ word) then None else digits_number (c ∷ word)

-- the id or stamp that a word writes: 1 to 2^63 - 1
abbrev pub id_of : List ℕ → Option ℕ
id_of word = option_and_then (within 1 (2 ^ 63)) (number_of word)

-- an id or a stamp
abbrev pub IsId : ℕ → Type 0
IsId n = (1 ≤ n) × (n < 2 ^ 63)
