-- What disks have counted, and that they go on.
use Rattle.std.specs.Prelude.{ℕ, ◌≡◌, ◌≤◌, ◌<◌, ◌↔◌, ◌⊎◌, IsSome}
use Rattle.disk_model.specs.declared.disks.PoolDisks.{Ghosts}
use Rattle.disk_model.specs.declared.disks.Draft as drafts
use Rattle.disk_model.specs.declared.disks.Reader as readers
use Rattle.disk_model.specs.Causes.{FaultyOne}
use Rattle.disk_model.specs.Moments.{Passes}

-- what disks have counted: their faults, how often a file was absent, the number of their next draft or reader, and their moment
pub record Mark : Type 0 where
  pub faults : ℕ
  pub absences : ℕ
  pub next_number : ℕ
  pub moment : ℕ

-- none of the four falls
pub record IsLater (before after : Mark) : Type 0 where
  pub faults : before.faults ≤ after.faults
  pub absences : before.absences ≤ after.absences
  pub next_number : before.next_number ≤ after.next_number
  pub moment : before.moment ≤ after.moment

-- the counts of the disks
abbrev pub mark_of : {D S T R : Type 0} → Ghosts D S T R → D → Mark
mark_of g disks = record { faults = g.faults disks; absences = g.absences disks; next_number = g.next_number disks; moment = g.moment disks }

-- the disks went on: they tell as before, no count falls, time passed, and they have their volumes
pub record GoesOn {D S T R : Type 0} (g : Ghosts D S T R) (old new : D) : Type 0 where
  pub honest : IsSome (g.worlds old) ↔ IsSome (g.worlds new)
  pub faults : g.faults old ≤ g.faults new
  pub absences : g.absences old ≤ g.absences new
  pub next_number : g.next_number old ≤ g.next_number new
  pub moment : g.moment old ≤ g.moment new
  pub passes : Passes (g.moment old) (g.left_since old) (g.left_since new)
  pub volume_count : g.volume_count new ≡ g.volume_count old

-- the number was given between these two next numbers
pub record GivenBetween (first last number : ℕ) : Type 0 where
  pub since : first ≤ number
  pub before : number < last

-- some draft or reader failed whose number is one of these
abbrev pub faulty_of : {S T R : Type 0} → drafts.Ghosts T S → readers.Ghosts R → ℕ → ℕ → Type 0
faulty_of d r first last =
    FaultyOne (λ draft. (d.place draft).number) (λ draft. d.faults draft) first last ⊎ FaultyOne (λ reader. r.number reader) (λ reader. r.faults reader) first last
