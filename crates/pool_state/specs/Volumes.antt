-- The volumes of a pool, by their numbers.
use Rattle.std.specs.Prelude.{ℕ, ◌≤◌}

-- the volume is one of so many
abbrev pub IsVolume : ℕ → ℕ → Type 0
IsVolume volumes vol = (1 ≤ vol) × (vol ≤ volumes)
