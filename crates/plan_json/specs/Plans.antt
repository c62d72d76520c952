-- The plan that a text is, or its first member out of form.
use Rattle.std.specs.Prelude.{ℕ, ◌+◌, ◌^◌, List, [], ◌∷◌, codes, Bool, true, ◌&&◌, nat_le, Option, Some, None, is_some, Result, Ok, Err, if◌then◌else◌, option_and_then}
use Rattle.serde_json.specs.Data.{Data, Items, no_items, item}
use Rattle.serde_json.specs.Find.{get, as_object}
use Rattle.plan_json.specs.Reading.{reading, text_at, volume_at, array_at, number_at, number_or, within}
use Rattle.plan_json.specs.declared.fault.PlanFault.{PlanFault}
use Rattle.plan_json.specs.declared.fault.PlanFault.TheVariants.{Malformed}
use Rattle.plan_json.specs.declared.fault.PlanMember.{PlanMember}
use Rattle.plan_json.specs.declared.fault.PlanMember.TheVariants.{Text, NodeUuid, TimeStamp, VolumeSetPlans, SourceVolume, DestinationVolume, BytesToMove, Bandwidth, TolerancePercent, MaxDiskErrors}
use Rattle.plan_json.specs.declared.step.PlanStep.{PlanStep}
use Rattle.plan_json.specs.declared.plan.Plan.{Plan}

-- the value of a member, or that member as the fault
abbrev pub or_malformed : {T : Type 0} → PlanMember → Option T → Result T PlanFault
or_malformed fault None = Err (Malformed fault)
or_malformed fault (Some value) = Ok value

-- the second step, where the first gave a value
infixl 10 ◌>>=◌
abbrev pub ◌>>=◌ : {A B : Type 0} → Result A PlanFault → (A → Result B PlanFault) → Result B PlanFault
Ok x >>= f = f x
Err fault >>= f = Err fault

-- a step, or its first member out of form
abbrev pub step_of : Data → Result PlanStep PlanFault
step_of value = do
  from ← or_malformed SourceVolume (volume_at (codes "sourceVolume") value)
  to ← or_malformed DestinationVolume (volume_at (codes "destinationVolume") value)
  bytes ← or_malformed BytesToMove (option_and_then (within 1 (2 ^ 54)) (number_at (codes "bytesToMove") value))
  bandwidth ← or_malformed Bandwidth (number_or 10 1048576 (get (codes "bandwidth") value))
  tolerance ← or_malformed TolerancePercent (number_or 10 100 (get (codes "tolerancePercent") value))
  max_errors ← or_malformed MaxDiskErrors (number_or 5 4294967295 (get (codes "maxDiskErrors") value))
  Ok (record {
    from = from;
    to = to;
    bytes = bytes;
    bandwidth = bandwidth;
    tolerance = tolerance;
    max_errors = max_errors;
  })

-- steps, or the first member out of form of the first step that has one
abbrev pub steps_of : Items → Result (List PlanStep) PlanFault
steps_of no_items = Ok []
steps_of (item value values) = step_of value >>= (λ step. steps_of values >>= (λ steps. Ok (step ∷ steps)))

-- how many items there are
abbrev pub item_count : Items → ℕ
item_count no_items = 0
item_count (item value values) = item_count values + 1

-- each item is an object
abbrev pub are_objects : Items → Bool
are_objects no_items = true
are_objects (item value values) = is_some (as_object value) && are_objects values

-- there are at most 1,024
abbrev pub is_short : Items → Bool
is_short items = nat_le (item_count items) 1024

-- the items, where they can be a plan's steps
abbrev pub step_values_in : Items → Option Items
step_values_in items = if is_short items && are_objects items then Some items else None

-- a plan, or its first member out of form
abbrev pub plan_of : Data → Result Plan PlanFault
plan_of value = do
  members ← or_malformed Text (as_object value)
  node ← or_malformed NodeUuid (text_at (codes "nodeUUID") value)
  time_ms ← or_malformed TimeStamp (number_at (codes "timeStamp") value)
  items ← or_malformed VolumeSetPlans (option_and_then step_values_in (array_at (codes "volumeSetPlans") value))
  steps ← steps_of items
  Ok (record {
    node = node;
    time_ms = time_ms;
    steps = steps;
  })

-- the plan that a text is, or its first member out of form
abbrev pub plan_in : List ℕ → Result Plan PlanFault
plan_in text = or_malformed Text (reading text) >>= plan_of
