-- What a run leaves alone.
use Rattle.disk_model.specs.declared.disks.PoolDisks.{Ghosts}
use Rattle.disk_model.specs.Files.{Files}
use Rattle.disk_model.specs.Alone.{KeepsFiles}
use Rattle.volume_layout.specs.Foreign.{IsForeign}
use Rattle.dn_play.specs.Play.{HoldsImage}

-- Where the disks tell one image before the run, what stands in it that isn't a block's stands, with the same bytes, in every image
-- that a crash could leave from then on; and no other file that isn't a block's does.
abbrev pub KeepsForeign : {D S T R : Type 0} → Ghosts D S T R → (old new : D) → Type 0
KeepsForeign g old new = (start : Files) → HoldsImage (g.worlds old) start → (image : Files) → g.left_since new (g.moment old) image → KeepsFiles IsForeign start image
