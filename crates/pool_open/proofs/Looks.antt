-- Calls that look, one after the other.
use Rattle.std.proofs.Common.{inl, inr, List, Option}
use Rattle.disk_model.specs.Files.{Files}
use Rattle.disk_model.specs.declared.disks.PoolDisks.{Ghosts}
use Rattle.disk_model.specs.Worlds.{World}
use Rattle.disk_model.specs.Told.{CanLeave}
use Rattle.disk_model.proofs.GoingOn.{went_same, went_then}
use Rattle.pool_survey.specs.Remaining.{Remains}
use Rattle.pool_open.specs.Looking.{OnlyLooks}

pub leaves_before : (old new : Option (List World)) → Remains old new → (image : Files) → CanLeave new image → CanLeave old image
leaves_before old new remains image leaves = (leaves.0, remains leaves.0 leaves.1, leaves.2)

module _ {D S T R : Type 0} (g : Ghosts D S T R) where
  -- no call
  pub looks_none : (one : D) → OnlyLooks g one one
  looks_none one = record {
    remains = λ world is. is;
    goes_on = went_same g one;
    images = λ t image left. inl left;
  }

  pub looks_then : (one two three : D) → OnlyLooks g one two →
      OnlyLooks g two three → OnlyLooks g one three
  looks_then one two three first second = record {
    remains = λ world is. first.remains world (second.remains world is);
    goes_on = went_then g one two three first.goes_on second.goes_on;
    images = λ t image left. elim (second.images t image left) [
      | inl earlier ↦ first.images t image earlier
      | inr leaves ↦ inr (leaves_before (g.worlds one) (g.worlds two) first.remains image leaves)
    ];
  }
