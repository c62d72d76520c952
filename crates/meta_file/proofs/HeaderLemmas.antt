-- The big-endian numbers of a header.
use Rattle.std.proofs.Common.{◌≡◌, ℕ, ◌^◌, ◌<◌, ◌≤◌, List, [], ◌∷◌, length, take, arith}
use Rattle.byteorder.specs.Endian.{big_number, big_bytes}
use Rattle.meta_file.specs.Checksums.{big_endian}

-- two bytes
pub big_endian-two : (bytes : List ℕ) → 2 ≤ length bytes → big_number 2 bytes ≡ big_endian 0 (take 2 bytes)
big_endian-two [] h = absurd (omega arith)
big_endian-two (a ∷ []) h = absurd (omega arith)
big_endian-two (a ∷ b ∷ rest) h = omega arith

-- four bytes
pub big_endian-four : (bytes : List ℕ) → 4 ≤ length bytes → big_number 4 bytes ≡ big_endian 0 (take 4 bytes)
big_endian-four [] h = absurd (omega arith)
big_endian-four (a ∷ []) h = absurd (omega arith)
big_endian-four (a ∷ b ∷ []) h = absurd (omega arith)
big_endian-four (a ∷ b ∷ c ∷ []) h = absurd (omega arith)
big_endian-four (a ∷ b ∷ c ∷ d ∷ rest) h = omega arith

-- what four bytes of a number are the number
pub big_endian-big_bytes : (x : ℕ) → x < 2 ^ 32 → big_endian 0 (big_bytes 4 x) ≡ x
big_endian-big_bytes x h = omega arith
