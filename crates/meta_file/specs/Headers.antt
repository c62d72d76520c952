-- The headers of meta files.
use Rattle.std.specs.Prelude.{ℕ, ◌≡◌, ◌≢◌, ◌<◌, ◌≤◌, ◌⊎◌, ◌==◌, ◌&&◌, nat_lt, nat_le, not, List, [], ◌∷◌, ◌++◌, length, take, drop, slice_index, Result, Ok, Err, if◌then◌else◌}
use Rattle.byteorder.specs.Endian.{big_bytes}
use Rattle.meta_file.specs.Checksums.{big_endian}
use Rattle.meta_file.specs.declared.header.Header.{Header}
use Rattle.meta_file.specs.declared.header.MetaFault.{MetaFault}
use Rattle.meta_file.specs.declared.header.MetaFault.TheVariants.{Short, Version, Kind, Step}

-- a known type, and 1 to 1,048,576 bytes a checksum
pub record IsHeader (header : Header) : Type 0 where
  pub known : header.kind ≤ 2
  pub some : 1 ≤ header.step
  pub few : header.step ≤ 1048576

-- what a fault tells is out of range
abbrev pub IsHeaderFault : MetaFault → Type 0
IsHeaderFault (Short have) = have < 7
IsHeaderFault (Version v) = v ≢ 1
IsHeaderFault (Kind t) = 2 < t
IsHeaderFault (Step n) = (n ≡ 0) ⊎ (1048576 < n)

-- the header of this type and step, or the first fault
abbrev pub header_with : ℕ → ℕ → ℕ → Result Header MetaFault
header_with version kind step =
    if not (version == 1) then Err (Version version)
    else if nat_lt 2 kind then Err (Kind kind)
    else if nat_le 1 step && nat_le step 1048576 then Ok (record { kind = kind; step = step }) else Err (Step step)

-- the header of a meta file, or its first fault
abbrev pub header_of : List ℕ → Result Header MetaFault
header_of meta =
    if nat_lt (length meta) 7 then Err (Short (length meta))
    else header_with (big_endian 0 (take 2 meta)) (slice_index meta 2) (big_endian 0 (take 4 (drop 3 meta)))

-- the seven bytes of a header
abbrev pub header_bytes : Header → List ℕ
header_bytes header = (big_bytes 2 1 ++ header.kind ∷ []) ++ big_bytes 4 header.step
