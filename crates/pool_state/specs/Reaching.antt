-- What a tenure's calls do with one block, in every world: the block's files change by a step, those of other blocks
-- stay.
use Rattle.std.specs.Prelude.{◌≡◌, ◌≢◌, ◌⊎◌, ℕ, List, take, Option}
use Rattle.disk_model.specs.Files.{Files}
use Rattle.disk_model.specs.Worlds.{World}
use Rattle.disk_model.specs.Told.{IsWorldOf, InEachWorld, CanLeave}
use Rattle.volume_layout.specs.Paths.{IsBlockId}
use Rattle.map_model.specs.World.{DraftsAside}
use Rattle.volume_layout.specs.declared.block_file.BlockFile.{BlockFile}
use Rattle.map_model.specs.Slots.{View, view_of}
use Rattle.map_model.specs.Tenures.{remove_all}

-- a world comes from one of these, in which only the block's files changed
pub record ComesFrom (id : ℕ) (step : View → View → Type 0) (old : Option (List World)) (world : World) : Type 0 where
  pub was : World
  pub is : IsWorldOf old was
  pub stepped : step (view_of was id) (view_of world id)
  pub others : (other : ℕ) → IsBlockId other → id ≢ other → view_of world other ≡ view_of was other
  pub aside : DraftsAside was → DraftsAside world

-- each world after the calls comes from one before them
pub record Reaches (id : ℕ) (step : View → View → Type 0) (old new : Option (List World)) : Type 0 where
  pub each : InEachWorld new (ComesFrom id step old)

-- nothing changes
abbrev pub Stays : View → View → Type 0
Stays before after = after ≡ before

-- one step after another
abbrev pub Then : (View → View → Type 0) → (View → View → Type 0) → View → View → Type 0
Then one two before after = (between : View) × one before between × two between after

-- the first few of these files of a volume are removed
abbrev pub RemovesSome : ℕ → List BlockFile → View → View → Type 0
RemovesSome vol files before after = (count : ℕ) × (after ≡ remove_all before vol (take count files))

-- all of them are
abbrev pub RemovesAll : ℕ → List BlockFile → View → View → Type 0
RemovesAll vol files before after = after ≡ remove_all before vol files

-- Files of a block are removed from a volume, one after the other: the first few, and all of them where it was done.
-- What a crash can leave meanwhile is what it can leave after the first few.
pub record RemovesFiles (id vol : ℕ) (files : List BlockFile) (done : Type 0) (old new : Option (List World)) (past since : ℕ → Files → Type 0) : Type 0 where
  pub some : Reaches id (RemovesSome vol files) old new
  pub all : done → Reaches id (RemovesAll vol files) old new
  pub moments : (t : ℕ) (image : Files) → since t image →
      past t image ⊎ ((told : Option (List World)) × Reaches id (RemovesSome vol files) old told × CanLeave told image)
