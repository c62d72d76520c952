-- What a plan says of its steps. No call but a submit changes it.
use Rattle.std.specs.Prelude.{ℕ, ◌≡◌, ◌-◌, ◌≤◌, List, length, map, slice_index_or}
use Rattle.work_table.specs.declared.answers.TaskEnd.{TaskEnd}
use Rattle.work_table.specs.declared.answers.TaskEnd.TheVariants.{Idle, Task, StepEnd}
use Rattle.work_table.specs.declared.step_work.StepWork.{StepWork}
use Rattle.work_table.specs.declared.work.Work.{Work}

-- the volumes of a step, and how many bytes it is to move
pub record Assigned : Type 0 where
  pub from : ℕ
  pub to : ℕ
  pub planned : ℕ

-- those of a step
abbrev pub assigned : StepWork → Assigned
assigned step = record { from = step.from; to = step.to; planned = step.planned }

-- those of the steps of the work, in their order
abbrev pub assignments : Work → List Assigned
assignments work = map assigned work.steps

-- a volume is one of so many, from 1
abbrev pub IsVolume : ℕ → ℕ → Type 0
IsVolume count vol = (1 ≤ vol) × (vol ≤ count)

-- both volumes of a step are of so many
abbrev pub AreVolumes : ℕ → Assigned → Type 0
AreVolumes count step = IsVolume count step.from × IsVolume count step.to

-- the work has a step of this number, from 1
abbrev pub HasStep : Work → ℕ → Type 0
HasStep work step = (1 ≤ step) × (step ≤ length work.steps)

-- the step of this number moves between these volumes
abbrev pub MovesBetween : Work → (step from to : ℕ) → Type 0
MovesBetween work step from to = (d : Assigned) →
    ((slice_index_or (assignments work) (step - 1) d).from ≡ from) × ((slice_index_or (assignments work) (step - 1) d).to ≡ to)

-- what is told is of a step of the work
abbrev pub IsOfWork : Work → TaskEnd → Type 0
IsOfWork work Idle = Unit {0}
IsOfWork work (Task plan_no step from to left tolerance bandwidth) =
    (plan_no ≡ work.plan_no) × HasStep work step × MovesBetween work step from to
IsOfWork work (StepEnd step end) = HasStep work step
