-- What is written for a plan.
use Rattle.std.specs.Prelude.{List, map, codes, ℕ}
use Rattle.serde_json.specs.Data.{Data, number, unsigned, string, array, object, member, no_members}
use Rattle.serde_json.specs.View.{items_of}
use Rattle.serde_json.specs.Written.{compact_text}
use Rattle.plan_json.specs.declared.step.PlanStep.{PlanStep}
use Rattle.plan_json.specs.declared.plan.Plan.{Plan}

-- a volume, by its UUID
abbrev pub volume_value : List ℕ → Data
volume_value uuid = object (member (codes "uuid") (string uuid) no_members)

-- a step, its members in the order of their bytes
abbrev pub step_value : PlanStep → Data
step_value step = object (
    member (codes "bandwidth") (number (unsigned step.bandwidth)) (
    member (codes "bytesToMove") (number (unsigned step.bytes)) (
    member (codes "destinationVolume") (volume_value step.to) (
    member (codes "maxDiskErrors") (number (unsigned step.max_errors)) (
    member (codes "sourceVolume") (volume_value step.from) (
    member (codes "tolerancePercent") (number (unsigned step.tolerance)) no_members))))))

-- a plan, its members in the order of their bytes
abbrev pub plan_value : Plan → Data
plan_value plan = object (
    member (codes "nodeUUID") (string plan.node) (
    member (codes "timeStamp") (number (unsigned plan.time_ms)) (
    member (codes "volumeSetPlans") (array (items_of (map step_value plan.steps))) no_members)))

-- its text, without blanks
abbrev pub plan_text : Plan → List ℕ
plan_text plan = compact_text (plan_value plan)
