-- What the checksums are of some bytes, from the catalogue of CRC parameters, and what a meta file holds.
use Rattle.std.specs.Prelude.{ℕ, ◌≡◌, List, [], ◌∷◌, ◌++◌, codes}
use Rattle.meta_file.specs.Checksums.{crc, castagnoli, ethernet, Matches}

-- the bytes over which the check value of a CRC is taken
abbrev pub check_bytes : List ℕ
check_bytes = codes "123456789"

-- the check values of CRC-32C and of CRC-32
abbrev pub HasCheckValues : Type 0
HasCheckValues = (crc castagnoli check_bytes ≡ 0xe306_9283) × (crc ethernet check_bytes ≡ 0xcbf4_3926)

-- the header of a meta file: version 1, a kind of checksum, and chunks of 512 bytes
abbrev pub header : ℕ → List ℕ
header kind = 0 ∷ 1 ∷ kind ∷ 0 ∷ 0 ∷ 2 ∷ 0 ∷ []

-- metas that match: of no checksums, with CRC-32 and with CRC-32C
abbrev pub SomeMatch : Type 0
SomeMatch = ((bytes : List ℕ) → Matches (header 0) bytes)
    × Matches (header 1 ++ (0xcb ∷ 0xf4 ∷ 0x39 ∷ 0x26 ∷ [])) check_bytes
    × Matches (header 2 ++ (0xe3 ∷ 0x06 ∷ 0x92 ∷ 0x83 ∷ [])) check_bytes

-- and metas that don't: one with a wrong sum, one with a sum of the other kind, one without a sum, and an empty file
abbrev pub SomeDoNot : Type 0
SomeDoNot = (Matches (header 2 ++ (0xe3 ∷ 0x06 ∷ 0x92 ∷ 0x84 ∷ [])) check_bytes → ⊥)
    × (Matches (header 1 ++ (0xe3 ∷ 0x06 ∷ 0x92 ∷ 0x83 ∷ [])) check_bytes → ⊥)
    × (Matches (header 2) check_bytes → ⊥)
    × (Matches [] check_bytes → ⊥)
