-- The volumes of a node while a plan is made.
use Rattle.std.specs.Prelude.{ℕ, ◌*◌, ◌-◌, ◌≡◌, ◌<◌, nat_lt, Bool, true, false, List, length, map, slice_index_or, Option, None, Some}
use Rattle.density.specs.declared.volume_use.VolumeUse.{VolumeUse}
use Rattle.density.specs.Density.{target_of}
use Rattle.density.specs.Reports.{total_capacity, total_used}
use Rattle.greedy_planner.specs.declared.volume.Volume.{Volume}
use Rattle.greedy_planner.specs.declared.volume.Totals.{Totals}
use Rattle.greedy_planner.specs.declared.volume.Side.{Side}
use Rattle.greedy_planner.specs.declared.volume.Side.TheVariants.{Low, High}

-- the volumes of a report, of which none is skipped
abbrev pub volume_of : VolumeUse → Volume
volume_of row = record { capacity = row.capacity; used = row.used; skipped = false }

abbrev pub volumes_of : List VolumeUse → List Volume
volumes_of rows = map volume_of rows

-- what they hold together
abbrev pub totals_of : List VolumeUse → Totals
totals_of rows = record { capacity = total_capacity rows; used = total_used rows }

-- the volume at a place, from 0
abbrev pub volume_at : List Volume → ℕ → Volume
volume_at s i = slice_index_or s i (record { capacity = 0; used = 0; skipped = false })

-- the bytes that a volume holds at the node's mean, rounded down
abbrev pub target_in : Totals → Volume → ℕ
target_in totals v = target_of totals.capacity totals.used v.capacity

-- what a volume can take until it is at its target, and what it can give
abbrev pub room_in : Totals → Volume → ℕ
room_in totals v = target_in totals v - v.used

abbrev pub surplus_in : Totals → Volume → ℕ
surplus_in totals v = v.used - target_in totals v

-- One volume comes before another: among the low ones that of the smaller share of used bytes, whose density is greater, and
-- among the high ones that of the greater share.
abbrev pub comes_before : Side → Volume → Volume → Bool
comes_before Low v w = nat_lt (v.used * w.capacity) (w.used * v.capacity)
comes_before High v w = nat_lt (w.used * v.capacity) (v.used * w.capacity)

-- Of the volumes below a place that aren't skipped it is the one that no other comes before, and of several such the lowest.
pub record IsFirstBelow (side : Side) (s : List Volume) (end i : ℕ) : Type 0 where
  pub inside : i < end
  pub unskipped : (volume_at s i).skipped ≡ false
  pub foremost : (k : ℕ) → k < end → (volume_at s k).skipped ≡ false → comes_before side (volume_at s k) (volume_at s i) ≡ false
  pub lowest : (k : ℕ) → k < i → (volume_at s k).skipped ≡ false → comes_before side (volume_at s i) (volume_at s k) ≡ true

-- the same of all volumes
abbrev pub IsFirst : Side → List Volume → ℕ → Type 0
IsFirst side s i = IsFirstBelow side s (length s) i

-- the first of the volumes below a place that aren't skipped, if there is one
abbrev pub IsFound : Side → List Volume → ℕ → Option ℕ → Type 0
IsFound side s end None = (k : ℕ) → k < end → (volume_at s k).skipped ≡ true
IsFound side s end (Some i) = IsFirstBelow side s end i
