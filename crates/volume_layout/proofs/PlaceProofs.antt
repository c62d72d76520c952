-- The order of places.
use Rattle.std.proofs.Common.{◌≡◌, ◌≢◌, ◌⊎◌, ℕ, ◌<◌, arith}
use Rattle.volume_layout.specs.Paths.{outer_dir, inner_dir}
use Rattle.volume_layout.specs.Places.{StartIsFirst, PlacesApart}

-- three numbers are in order, the same, or in the other order
by_three : (a b c x y z : ℕ) → c ≢ z →
    ((a < x) ⊎ ((a ≡ x) × ((b < y) ⊎ ((b ≡ y) × (c < z))))) ⊎ ((x < a) ⊎ ((x ≡ a) × ((y < b) ⊎ ((y ≡ b) × (z < c)))))
by_three a b c x y z differ = grind arith

pub places_apart : PlacesApart
places_apart id other differ = by_three (outer_dir id) (inner_dir id) id (outer_dir other) (inner_dir other) other differ

first : (a b id : ℕ) → 0 < id → (0 < a) ⊎ ((0 ≡ a) × ((0 < b) ⊎ ((0 ≡ b) × (0 < id))))
first a b id some = grind arith

pub start_is_first : StartIsFirst
start_is_first id valid = first (outer_dir id) (inner_dir id) id (omega (arith, valid.0))
