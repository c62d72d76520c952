-- What an opening makes of a pool's files.
use Rattle.std.specs.Prelude.{ℕ, ◌≡◌, ◌⊎◌, ◌||◌, IsTrue, Option, IsSome, is_some, MatchOption}
use Rattle.disk_model.specs.Files.{Files}
use Rattle.disk_model.specs.Worlds.{World, has_draft}
use Rattle.volume_layout.specs.Paths.{IsBlockId}
use Rattle.map_model.specs.Cells.{Replica, Cell, absent, final, waiting, Cells}
use Rattle.map_model.specs.Copies.{BlockFiles, files_of, block_files, own_spot, ReadsAs}

-- a block file stands somewhere, finalised or being written
abbrev pub LeavesBlockFile : BlockFiles → Type 0
LeavesBlockFile files = (vol : ℕ) × (IsTrue (files.writing vol) ⊎ IsSome (files.block (own_spot vol)))

-- a block without a copy waits exactly where a block file stands, and else is absent
pub record WaitsExactly (files : BlockFiles) (cell : Cell) : Type 0 where
  pub waits : LeavesBlockFile files → cell ≡ waiting
  pub absent : (LeavesBlockFile files → ⊥) → cell ≡ absent

-- the cell that an opening makes of a block's files
pub record MakesCell (files : BlockFiles) (cell : Cell) : Type 0 where
  pub replica : Option Replica
  pub reads : ReadsAs files replica
  pub made : MatchOption replica (WaitsExactly files cell) (λ r. cell ≡ final r)

-- the cells that an opening makes
abbrev pub MakesCells : (ℕ → BlockFiles) → Cells → Type 0
MakesCells files cells = (id : ℕ) → IsBlockId id → MakesCell (files id) (cells id)

-- the files of a block in a world, where drafts stand beside settled files
abbrev pub shown_files : World → ℕ → BlockFiles
shown_files world id = files_of world.settled (λ vol path. has_draft world vol path || is_some (world.settled vol path)) id

-- of each block the image reads as these files of the block do
abbrev pub ReadsAlike : (ℕ → BlockFiles) → Files → Type 0
ReadsAlike files image = (id : ℕ) → IsBlockId id → (replica : Option Replica) → ReadsAs (files id) replica → ReadsAs (block_files image id) replica
