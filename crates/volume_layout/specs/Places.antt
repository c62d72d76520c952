-- The order of places.
use Rattle.std.specs.Prelude.{ℕ, ◌≡◌, ◌≢◌, ◌<◌, ◌⊎◌}
use Rattle.volume_layout.specs.Paths.{IsBlockId, outer_dir, inner_dir}
use Rattle.volume_layout.specs.declared.place.Place.{Place}
use Rattle.volume_layout.specs.declared.place.TheConstants.{START}

-- by the outer directory, then the inner one, then the id
abbrev pub IsBefore : Place → Place → Type 0
IsBefore a b = (a.d1 < b.d1) ⊎ ((a.d1 ≡ b.d1) × ((a.d2 < b.d2) ⊎ ((a.d2 ≡ b.d2) × (a.id < b.id))))

-- the place of a block
abbrev pub block_place : ℕ → Place
block_place id = record { d1 = outer_dir id; d2 = inner_dir id; id = id }

abbrev pub StartIsFirst : Type 0
StartIsFirst = (id : ℕ) → IsBlockId id → IsBefore START (block_place id)

abbrev pub PlacesApart : Type 0
PlacesApart = (id other : ℕ) → id ≢ other → IsBefore (block_place id) (block_place other) ⊎ IsBefore (block_place other) (block_place id)
