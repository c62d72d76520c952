-- Which meta and which copy is picked.
use Rattle.std.specs.Prelude.{ℕ, ◌<◌, ◌≤◌, ◌≡◌, ◌≢◌, ◌⊎◌, List, length, slice_index, slice_index_or, Option, Some}
use Rattle.dup_resolve.specs.declared.CopyRow.{CopyRow}

-- the stamp stands in the list
abbrev pub HasStamp : List ℕ → ℕ → Type 0
HasStamp stamps stamp = (k : ℕ) × (k < length stamps) × (slice_index stamps k ≡ stamp)

-- no stamp stands twice
abbrev pub IsDistinct : List ℕ → Type 0
IsDistinct stamps = (j k : ℕ) → j < k → k < length stamps → slice_index stamps j ≢ slice_index stamps k

-- of two copies of one stamp and length, the one on the held volume is first, then the one on the lower volume
abbrev pub VolumeFirst : Option ℕ → ℕ → ℕ → Type 0
VolumeFirst held vol other = (held ≡ Some vol) ⊎ ((held ≢ Some other) × (vol ≤ other))

-- one copy is at least another: by stamp, then length, then volume
abbrev pub IsAtLeast : Option ℕ → CopyRow → CopyRow → Type 0
IsAtLeast held copy other =
    (other.stamp < copy.stamp) ⊎ ((other.stamp ≡ copy.stamp)
    × ((other.len < copy.len) ⊎ ((other.len ≡ copy.len) × VolumeFirst held copy.vol other.vol)))

-- the copy at the index is at least every other
abbrev pub IsPicked : List CopyRow → Option ℕ → ℕ → Type 0
IsPicked copies held index = (index < length copies)
    × ((k : ℕ) (d : CopyRow) → k < length copies → IsAtLeast held (slice_index_or copies index d) (slice_index_or copies k d))
