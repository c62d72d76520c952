-- Tables that take eight bits of a checksum, or eight bytes, at once.
use Rattle.std.specs.Prelude.{◌≡◌, ◌<◌, ℕ, zero, suc, ◌+◌, ◌*◌, ◌/◌, ◌%◌, ◌==◌, List, if◌then◌else◌, bit_xor, fold, slice_index}

-- a half, with the polynomial taken in where the lowest bit was 1
abbrev pub half_with : ℕ → ℕ → ℕ → ℕ
half_with poly bit half = if bit == 1 then bit_xor half poly else half

-- one bit: the number is shifted right, and the polynomial taken in where a 1 falls out
unfoldable pub bit_step : ℕ → ℕ → ℕ
bit_step poly x = half_with poly (x % 2) (x / 2)

-- a number of bits
unfoldable pub bit_steps : ℕ → ℕ → ℕ → ℕ
bit_steps poly zero x = x
bit_steps poly (suc n) x = bit_steps poly n (bit_step poly x)

-- one byte
abbrev pub byte_step : ℕ → ℕ → ℕ → ℕ
byte_step poly x byte = bit_steps poly 8 (bit_xor x byte)

-- the register after some bytes
abbrev pub after : ℕ → ℕ → List ℕ → ℕ
after poly x bytes = fold (byte_step poly) x bytes

-- the table has at each byte what eight bits make of it
abbrev pub IsTable : ℕ → List ℕ → Type 0
IsTable poly table = (k : ℕ) → k < 256 → slice_index table k ≡ bit_steps poly 8 k

-- row j of the table has at each byte what 8 * (j + 1) bits make of it
abbrev pub AreTables : ℕ → List ℕ → Type 0
AreTables poly tables = (m : ℕ) → m < 2048 → slice_index tables m ≡ bit_steps poly (8 * (m / 256) + 8) (m % 256)
