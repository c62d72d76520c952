-- The greedy plan: a run of turns, each of which makes a step between the volumes of greatest and of least density, or
-- skips those of the two that can take or give nothing.
use Rattle.std.specs.Prelude.{ℕ, ◌+◌, ◌-◌, ◌≡◌, ◌==◌, ◌&&◌, ◌||◌, not, nat_le, min, if◌then◌else◌, Bool, true, false, List, [], ◌∷◌, ◌++◌, slice_set, count_by}
use Rattle.std.specs.List.{list_any}
use Rattle.density.specs.declared.volume_use.VolumeUse.{VolumeUse}
use Rattle.density.specs.Density.{is_past}
use Rattle.greedy_planner.specs.declared.volume.Volume.{Volume}
use Rattle.greedy_planner.specs.declared.volume.Totals.{Totals}
use Rattle.greedy_planner.specs.declared.volume.Turn.{Turn}
use Rattle.greedy_planner.specs.declared.volume.Step.{Step}
use Rattle.greedy_planner.specs.declared.volume.Side.TheVariants.{Low, High}
use Rattle.greedy_planner.specs.Volumes.{volumes_of, totals_of, volume_at, room_in, surplus_in, IsFirst}

-- a volume that isn't skipped is past the threshold
abbrev pub is_open_past : Totals → ℕ → Volume → Bool
is_open_past totals threshold v = not v.skipped && is_past totals.capacity totals.used v.capacity v.used threshold

-- the plan goes on while two volumes aren't skipped and one of those is past the threshold
abbrev pub goes_on : Totals → ℕ → List Volume → Bool
goes_on totals threshold s = nat_le 2 (count_by (λ v. not v.skipped) s) && list_any (is_open_past totals threshold) s

-- the volume at a place is skipped
abbrev pub skip_at : ℕ → List Volume → List Volume
skip_at i s = slice_set s i (record (volume_at s i) { skipped = true })

-- the volume at a place holds so many bytes
abbrev pub use_at : ℕ → ℕ → List Volume → List Volume
use_at i used s = slice_set s i (record (volume_at s i) { used = used })

-- the step from high to low, of the lesser of what high can give and low can take
abbrev pub step_of : Totals → Turn → List Volume → Step
step_of totals turn s = record {
  from = turn.high;
  to = turn.low;
  bytes = min (room_in totals (volume_at s turn.low)) (surplus_in totals (volume_at s turn.high));
}

-- one of the two can take or give nothing
abbrev pub is_skip : Totals → Turn → List Volume → Bool
is_skip totals turn s = (room_in totals (volume_at s turn.low) == 0) || (surplus_in totals (volume_at s turn.high) == 0)

-- the volumes once those of the two are skipped that can take or give nothing
abbrev pub low_skipped : Totals → Turn → List Volume → List Volume
low_skipped totals turn s = if room_in totals (volume_at s turn.low) == 0 then skip_at turn.low s else s

abbrev pub both_skipped : Totals → Turn → List Volume → List Volume
both_skipped totals turn s =
    if surplus_in totals (volume_at s turn.high) == 0 then skip_at turn.high (low_skipped totals turn s) else low_skipped totals turn s

-- the volumes once a step is made
abbrev pub moved : Step → List Volume → List Volume
moved step s = use_at step.to ((volume_at s step.to).used + step.bytes) (use_at step.from ((volume_at s step.from).used - step.bytes) s)

-- the volumes after a turn, and the step that it makes
abbrev pub volumes_after : Totals → Turn → List Volume → List Volume
volumes_after totals turn s = if is_skip totals turn s then both_skipped totals turn s else moved (step_of totals turn s) s

abbrev pub steps_in : Totals → Turn → List Volume → List Step
steps_in totals turn s = if is_skip totals turn s then [] else step_of totals turn s ∷ []

-- The turns are a run from these volumes to its end: each is that of the volumes at its time, and there is one exactly
-- while the plan goes on.
abbrev pub IsRun : Totals → ℕ → List Volume → List Turn → Type 0
IsRun totals threshold s [] = goes_on totals threshold s ≡ false
IsRun totals threshold s (turn ∷ turns) =
    (goes_on totals threshold s ≡ true) × IsFirst Low s turn.low × IsFirst High s turn.high
    × IsRun totals threshold (volumes_after totals turn s) turns

-- the steps of a run
abbrev pub steps_of : Totals → List Volume → List Turn → List Step
steps_of totals s [] = []
steps_of totals s (turn ∷ turns) = steps_in totals turn s ++ steps_of totals (volumes_after totals turn s) turns

-- the steps are those of a run from these volumes
pub record IsPlanOf (totals : Totals) (threshold : ℕ) (s : List Volume) (steps : List Step) : Type 0 where
  pub turns : List Turn
  pub run : IsRun totals threshold s turns
  pub steps_are : steps ≡ steps_of totals s turns

-- those of a run from the volumes of a report
abbrev pub IsGreedyPlan : List VolumeUse → ℕ → List Step → Type 0
IsGreedyPlan rows threshold steps = IsPlanOf (totals_of rows) threshold (volumes_of rows) steps
