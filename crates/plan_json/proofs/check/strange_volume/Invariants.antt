use Rattle.std.proofs.Common.{◌≡◌, drop, map, string_bytes}
use Rattle.plan_json.specs.Checks.{strange_volume}
use Rattle.plan_json.proofs.check.strange_volume.Given as goal

-- the first strange volume is that of the steps that are left
abbrev pub invariant-loop-step : goal.invariant-loop-step
invariant-loop-step l =
    strange_volume (map string_bytes l.volumes) l.steps ≡ strange_volume (map string_bytes l.volumes) (drop l.step-index l.steps)
