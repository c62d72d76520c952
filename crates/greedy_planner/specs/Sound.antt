-- The limits of the volumes of a report, which hold while a plan is made.
use Rattle.std.specs.Prelude.{ℕ, ◌^◌, ◌<◌, ◌≤◌, List, length}
use Rattle.greedy_planner.specs.declared.volume.Volume.{Volume}
use Rattle.greedy_planner.specs.declared.volume.Totals.{Totals}
use Rattle.greedy_planner.specs.Volumes.{volume_at}

-- a volume's capacity is a part of the node's, and no number is too large
pub record IsSound (totals : Totals) (v : Volume) : Type 0 where
  pub some : 0 < v.capacity
  pub capacity : v.capacity ≤ 2 ^ 54
  pub part : v.capacity ≤ totals.capacity
  pub used : v.used ≤ 2 ^ 60

-- so it is for each volume, and for the totals
pub record AreSound (totals : Totals) (s : List Volume) : Type 0 where
  pub each : (k : ℕ) → k < length s → IsSound totals (volume_at s k)
  pub capacity : totals.capacity ≤ 2 ^ 60
  pub used : totals.used ≤ 2 ^ 60
