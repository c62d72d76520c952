-- What the calls of a pool leave alone: the files that aren't a block's.
use Rattle.disk_model.specs.declared.disks.PoolDisks.{Ghosts}
use Rattle.disk_model.specs.Alone.{LeavesAlone}
use Rattle.volume_layout.specs.Foreign.{IsForeign}

-- between the disks before and after, what isn't a block's was left alone, in each world and in each image that a crash could leave meanwhile
abbrev pub LeavesForeign : {D S T R : Type 0} → Ghosts D S T R → (old new : D) → Type 0
LeavesForeign g old new = LeavesAlone IsForeign (g.worlds old) (g.worlds new) (g.left_since old) (g.left_since new)
