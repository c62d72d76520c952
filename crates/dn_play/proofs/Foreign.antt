-- A run whose calls leave what isn't a block's alone keeps those files.
use Rattle.std.proofs.Common.{inl, inr}
use Rattle.disk_model.specs.declared.disks.PoolDisks.{Ghosts}
use Rattle.disk_model.specs.Files.{Files}
use Rattle.disk_model.specs.Told.{CanLeave}
use Rattle.disk_model.proofs.Alone.{can_leave_alike, left_keeps}
use Rattle.volume_layout.specs.Foreign.{IsForeign}
use Rattle.pool_state.specs.Foreign.{LeavesForeign}
use Rattle.pool_state.proofs.Foreign.{foreign_same}
use Rattle.dn_play.specs.Foreign.{KeepsForeign}

module _ {D S T R : Type 0} (g : Ghosts D S T R) (only_now : (disks : D) (image : Files) → g.left_since disks (g.moment disks) image → CanLeave (g.worlds disks) image) where
  pub keeps_foreign : (old new : D) → LeavesForeign g old new → KeepsForeign g old new
  keeps_foreign old new leaves start holds image left = elim (leaves.images (g.moment old) image left) [
    | inl earlier ↦ left_keeps IsForeign start (g.worlds old) holds image (can_leave_alike IsForeign (g.worlds old) image (only_now old image earlier))
    | inr since ↦ left_keeps IsForeign start (g.worlds old) holds image since
  ]

  -- no call
  pub keeps_same : (disks : D) → KeepsForeign g disks disks
  keeps_same disks = keeps_foreign disks disks (foreign_same (g.worlds disks) (g.left_since disks))
