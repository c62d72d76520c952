-- The laws of the traits of the outside, for disks that tell no content.
use Rattle.std.proofs.Common.{ℕ, None}
use Rattle.disk_model.specs.Files.{Files}
use Rattle.disk_model.specs.Worlds.{World}
use Rattle.disk_model.specs.Told.{InEachWorld, IsDisk, StandsWithin, CanLeave}

-- where no world is told each has every property
pub untold_in_each_world : (P : World → Type 0) → InEachWorld None P
untold_in_each_world P world is = absurd (cc is.1)

pub untold_is_disk : (next : ℕ) → IsDisk next None
untold_is_disk next = record { some = λ same. cc same; worlds = untold_in_each_world _ }

pub untold_stands_within : (volumes : ℕ) → StandsWithin volumes None
untold_stands_within volumes = untold_in_each_world _

pub untold_leaves_nothing : (image : Files) → CanLeave None image → ⊥
untold_leaves_nothing image leaves = cc leaves.1.1
