-- The checks that a submitted plan goes through, in their order.
use Rattle.std.specs.Prelude.{ℕ, ◌-◌, ◌==◌, ◌&&◌, nat_lt, not, Bool, List, [], ◌∷◌, Option, Some, None, Result, Ok, Err, if◌then◌else◌, find, All, Contains}
use Rattle.std.specs.List.{list_any, position_from}
use Rattle.std.specs.Str.{bytes_eq, str_eq_ignore_ascii_case}
use Rattle.plan_json.specs.declared.fault.PlanFault.{PlanFault}
use Rattle.plan_json.specs.declared.fault.PlanFault.TheVariants.{InvalidVersion, HashMismatch, OldPlan, NodeMismatch, InvalidVolume, InvalidMove}
use Rattle.plan_json.specs.declared.step.PlanStep.{PlanStep}
use Rattle.plan_json.specs.declared.plan.Plan.{Plan}
use Rattle.plan_json.specs.Id.{id_of}
use Rattle.plan_json.specs.Plans.{plan_in, ◌>>=◌}

-- how many milliseconds old a plan is; 0 where it was made later
abbrev pub age : ℕ → Plan → ℕ
age now plan = now - plan.time_ms

-- it is older than a day, and not forced
abbrev pub is_old : Bool → ℕ → Plan → Bool
is_old force now plan = not force && nat_lt 86400000 (age now plan)

-- the node has a volume
abbrev pub is_among : List (List ℕ) → List ℕ → Bool
is_among volumes uuid = list_any (bytes_eq uuid) volumes

-- the volumes that steps name, of each step the one that gives first
abbrev pub named_volumes : List PlanStep → List (List ℕ)
named_volumes [] = []
named_volumes (step ∷ steps) = step.from ∷ step.to ∷ named_volumes steps

-- the first of them that the node hasn't
abbrev pub strange_volume : List (List ℕ) → List PlanStep → Option (List ℕ)
strange_volume volumes steps = find (λ uuid. not (is_among volumes uuid)) (named_volumes steps)

-- the number, from 1, of the first step whose source is its destination
abbrev pub idle_step : List PlanStep → Option ℕ
idle_step steps = position_from (λ step. bytes_eq step.from step.to) 1 steps

-- the plan, unless a volume is strange or a step is idle
abbrev pub unless_found : Plan → Option (List ℕ) → Option ℕ → Result Plan PlanFault
unless_found plan (Some uuid) idle = Err (InvalidVolume uuid)
unless_found plan None (Some step) = Err (InvalidMove step)
unless_found plan None None = Ok plan

-- the plan, or the first of the checks that look at it and fail
abbrev pub checked : Bool → ℕ → List ℕ → List (List ℕ) → Plan → Result Plan PlanFault
checked force now node volumes plan =
    if is_old force now plan then Err (OldPlan (age now plan))
    else if not (bytes_eq plan.node node) then Err NodeMismatch
    else unless_found plan (strange_volume volumes plan.steps) (idle_step plan.steps)

-- what a plan was submitted with: its text, the id and version given, whether it is forced, the moment in milliseconds, and the node with its volumes
pub record Submission : Type 0 where
  pub text : List ℕ
  pub id : List ℕ
  pub version : ℕ
  pub force : Bool
  pub now : ℕ
  pub node : List ℕ
  pub volumes : List (List ℕ)

-- the plan, or the first check that fails
abbrev pub accepted : Submission → Result Plan PlanFault
accepted s =
    if not (s.version == 1) then Err (InvalidVersion s.version)
    else if not (str_eq_ignore_ascii_case s.id (id_of s.text)) then Err (HashMismatch (id_of s.text))
    else plan_in s.text >>= checked s.force s.now s.node s.volumes

-- the node has the volumes of each step
abbrev pub IsOn : List (List ℕ) → Plan → Type 0
IsOn volumes plan = All (λ step. Contains volumes step.from × Contains volumes step.to) plan.steps
