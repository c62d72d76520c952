-- Which images a cell allows.
use Rattle.std.specs.Prelude.{ℕ, ◌≡◌, ◌⊎◌, IsTrue, Option, Some, None}
use Rattle.volume_layout.specs.Paths.{IsBlockId}
use Rattle.disk_model.specs.Files.{Files}
use Rattle.map_model.specs.Cells.{Replica, Cell, absent, final, growing, unsure, waiting, Cells}
use Rattle.map_model.specs.Copies.{BlockFiles, ReadsAs, block_files}
use Rattle.map_model.specs.Steps.{Command, cell_after}

-- what may be read of a block with this cell
abbrev pub Allows : Cell → Option Replica → Type 0
Allows absent read = read ≡ None
Allows (final replica) read = read ≡ Some replica
Allows (growing stamp base bytes left) read = read ≡ base
Allows (unsure x y cut) read = (read ≡ x) ⊎ ((read ≡ y) ⊎ (IsTrue cut × (read ≡ None)))
Allows waiting read = read ≡ None

-- the cell allows what is read of these files
pub record AllowsFiles (cell : Cell) (files : BlockFiles) : Type 0 where
  pub read : Option Replica
  pub reads : ReadsAs files read
  pub allowed : Allows cell read

-- the cells allow the image, block by block
abbrev pub AllowsImage : Cells → Files → Type 0
AllowsImage cells image = (id : ℕ) → IsBlockId id → AllowsFiles (cells id) (block_files image id)

-- allowed by the cell, or by the cell after the command is carried out
abbrev pub Between : Cell → Command → BlockFiles → Type 0
Between cell command files =
    AllowsFiles cell files ⊎ ((after : Cell) × (cell_after cell command ≡ Some after) × AllowsFiles after files)
