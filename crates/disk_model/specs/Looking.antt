-- Calls that look into directories of disks that tell one world at most.
use Rattle.std.specs.Prelude.{◌≡◌, ◌≤◌, List, [], ◌∷◌, Option, Some}
use Rattle.disk_model.specs.declared.disks.PoolDisks.{Ghosts}
use Rattle.disk_model.specs.Worlds.{World}
use Rattle.disk_model.specs.Told.{CanLeave}
use Rattle.disk_model.specs.Moments.{Elapses}

-- the disks tell one world, or nothing
abbrev pub TellOne : Option (List World) → Type 0
TellOne told = (worlds : List World) → told ≡ Some worlds → (world : World) × (worlds ≡ world ∷ [])

-- The disks tell what they told, no count falls, no number was given, and they have their volumes.
pub record HaveLooked {D S T R : Type 0} (g : Ghosts D S T R) (old new : D) : Type 0 where
  pub worlds : g.worlds new ≡ g.worlds old
  pub time : Elapses (g.moment old) (g.moment new) (g.left_since old) (g.left_since new) (CanLeave (g.worlds new))
  pub faults : g.faults old ≤ g.faults new
  pub absences : g.absences old ≤ g.absences new
  pub numbers : g.next_number new ≡ g.next_number old
  pub volumes : g.volume_count new ≡ g.volume_count old
