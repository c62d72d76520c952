-- What a pool tells a report of its volumes.
use Rattle.std.specs.Prelude.{ℕ, ◌≡◌, ◌-◌, ◌^◌, ◌==◌, ◌&&◌, Bool, true, false, if◌then◌else◌, min, sum_by, List, get_or}
use Rattle.density.specs.declared.volume_use.VolumeUse.{VolumeUse}
use Rattle.map_model.specs.Stands.{EntryState, is_final, Entry, Leftover, BlockBooks}
use Rattle.replica_map.specs.Uses.{of_some, IsSumOf}
use Rattle.pool_state.specs.Uses.{books_use}

-- the entry is that of a replica
abbrev pub is_replica : EntryState → Bool
is_replica is_final = true
is_replica state = false

-- how many replicas a block has on a volume by its books, 0 or 1
abbrev pub entry_replicas : ℕ → Entry → ℕ
entry_replicas vol entry = if is_replica entry.state && entry.vol == vol then 1 else 0

abbrev pub books_replicas : ℕ → BlockBooks → ℕ
books_replicas vol books = of_some (entry_replicas vol) books.entry

-- how many of its leftovers aren't held
abbrev pub file_loose : Leftover → ℕ
file_loose leftover = if leftover.held then 0 else 1

abbrev pub books_loose : BlockBooks → ℕ
books_loose books = sum_by file_loose books.leftovers

-- What a report shows of a volume: its share, what is used of it, but at most 2^54, and how many replicas are on it.
pub record ShowsVolume (shares : List ℕ) (books : ℕ → BlockBooks) (vol : ℕ) (shown : VolumeUse) : Type 0 where
  pub capacity : shown.capacity ≡ get_or shares (vol - 1) 0
  pub used : ℕ
  pub is_used : IsSumOf (λ id. books_use vol (books id)) used
  pub shown_used : shown.used ≡ min used (2 ^ 54)
  pub replicas : IsSumOf (λ id. books_replicas vol (books id)) shown.replicas

-- so many leftovers aren't held
abbrev pub AreLoose : (ℕ → BlockBooks) → ℕ → Type 0
AreLoose books count = IsSumOf (λ id. books_loose (books id)) count
