-- What the steps of a plan do to the used bytes of the volumes.
use Rattle.std.specs.Prelude.{ℕ, ◌+◌, ◌-◌, ◌≢◌, ◌<◌, ◌≤◌, List, [], ◌∷◌, length, map, slice_set, slice_index, ⊤}
use Rattle.density.specs.declared.volume_use.VolumeUse.{VolumeUse}
use Rattle.density.specs.Density.{target_of, distance}
use Rattle.density.specs.Reports.{total_capacity, total_used}
use Rattle.greedy_planner.specs.declared.volume.Step.{Step}

-- the used bytes of the volumes of a report
abbrev pub uses_of : List VolumeUse → List ℕ
uses_of rows = map (λ row. row.used) rows

-- and those that they hold at the node's mean, rounded down
abbrev pub targets_of : List VolumeUse → List ℕ
targets_of rows = map (λ row. target_of (total_capacity rows) (total_used rows) row.capacity) rows

-- the used bytes after a step, and after some
abbrev pub uses_after_step : Step → List ℕ → List ℕ
uses_after_step step uses =
    slice_set (slice_set uses step.from (slice_index uses step.from - step.bytes)) step.to (slice_index uses step.to + step.bytes)

abbrev pub uses_after : List Step → List ℕ → List ℕ
uses_after [] uses = uses
uses_after (step ∷ steps) uses = uses_after steps (uses_after_step step uses)

-- the step moves some bytes from one volume to another, and leads neither past its target
pub record KeepsTargets (targets uses : List ℕ) (step : Step) : Type 0 where
  pub from : step.from < length uses
  pub to : step.to < length uses
  pub other : step.from ≢ step.to
  pub some : 0 < step.bytes
  pub gives : slice_index targets step.from + step.bytes ≤ slice_index uses step.from
  pub takes : slice_index uses step.to + step.bytes ≤ slice_index targets step.to

-- so does each of some steps, after those before it
abbrev pub AllKeepTargets : (targets uses : List ℕ) → List Step → Type 0
AllKeepTargets targets uses [] = ⊤
AllKeepTargets targets uses (step ∷ steps) = KeepsTargets targets uses step × AllKeepTargets targets (uses_after_step step uses) steps

-- no volume is further from its target than before
abbrev pub AllNearer : (targets before after : List ℕ) → Type 0
AllNearer targets before after =
    (k : ℕ) → k < length before → distance (slice_index after k) (slice_index targets k) ≤ distance (slice_index before k) (slice_index targets k)
