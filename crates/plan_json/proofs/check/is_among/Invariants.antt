use Rattle.std.proofs.Common.{◌≡◌, drop, map, string_bytes}
use Rattle.plan_json.specs.Checks.{is_among}
use Rattle.plan_json.proofs.check.is_among.Given as goal

-- it is among the volumes, or not, as it is among those that are left
abbrev pub invariant-loop-volume : goal.invariant-loop-volume
invariant-loop-volume l =
    is_among (map string_bytes l.volumes) l.uuid ≡ is_among (map string_bytes (drop l.volume-index l.volumes)) l.uuid
