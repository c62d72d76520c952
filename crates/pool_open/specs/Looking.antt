-- Calls that only look at the disks.
use Rattle.disk_model.specs.declared.disks.PoolDisks.{Ghosts}
use Rattle.disk_model.specs.Told.{CanLeave}
use Rattle.disk_model.specs.Moments.{AddsOnly}
use Rattle.disk_model.specs.Marks.{GoesOn}
use Rattle.pool_survey.specs.Remaining.{Remains}

-- Only calls were made that look: each world is one of those before, and what a crash could leave meanwhile is what one of them can leave.
pub record OnlyLooks {D S T R : Type 0} (g : Ghosts D S T R) (old new : D) : Type 0 where
  pub remains : Remains (g.worlds old) (g.worlds new)
  pub goes_on : GoesOn g old new
  pub images : AddsOnly (g.left_since old) (g.left_since new) (CanLeave (g.worlds old))
