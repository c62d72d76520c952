-- The laws that tie cells to images.
use Rattle.std.specs.Prelude.{ℕ, ◌≡◌, ◌≢◌, List, IsTrue, Option}
use Rattle.disk_model.specs.Files.{Files}
use Rattle.disk_model.specs.Worlds.{World, draft_at, created, published, removed}
use Rattle.disk_model.specs.Told.{InEachWorld, CanLeave}
use Rattle.volume_layout.specs.Paths.{IsBlockId}
use Rattle.map_model.specs.World.{DraftsAside}
use Rattle.map_model.specs.Cells.{Replica, Cell, Cells}
use Rattle.map_model.specs.Steps.{Command, Reply, Room, Step}
use Rattle.map_model.specs.Allows.{AllowsImage, AllowsFiles, Between}
use Rattle.map_model.specs.Copies.{BlockFiles, ReadsAs}
use Rattle.map_model.specs.Sound.{HasSoundCopies, IsSoundBy}
use Rattle.volume_layout.specs.declared.block_file.BlockFile.{BlockFile}
use Rattle.volume_layout.specs.BlockFiles.{is_file, path_of}
use Rattle.map_model.specs.Slots.{View, files_in, view_of}
use Rattle.map_model.specs.Stands.{BlockBooks, BlockStands}

-- what is read of a block's files is one thing
abbrev pub OneReading : Type 0
OneReading = (files : BlockFiles) (first second : Option Replica) → ReadsAs files first → ReadsAs files second → first ≡ second

-- what stands for a block's cell is read as the cell allows
abbrev pub BlockAllows : (List ℕ → Replica → Type 0) → Type 0
BlockAllows IsMatch = (view : View) (books : BlockBooks) (cell : Cell) → BlockStands IsMatch view books cell → AllowsFiles cell (files_in view)

-- what the cell after a command allows is between the cell before it and the cell that it was to leave
abbrev pub StepsAreBetween : Type 0
StepsAreBetween = (room : Room) (cell : Cell) (command : Command) (reply : Reply) (after : Cell) (files : BlockFiles) →
    Step room cell command reply after → AllowsFiles after files → Between cell command files

-- one world stands for the books and the cells of all blocks
pub record WorldStands (IsMatch : ℕ → List ℕ → Replica → Type 0) (books : ℕ → BlockBooks) (cells : Cells) (world : World) : Type 0 where
  pub blocks : (id : ℕ) → IsBlockId id → BlockStands (IsMatch id) (view_of world id) (books id) (cells id)
  pub aside : DraftsAside world

-- every world that the disk tells stands for them
abbrev pub PoolStands : (ℕ → List ℕ → Replica → Type 0) → Option (List World) → (ℕ → BlockBooks) → Cells → Type 0
PoolStands IsMatch told books cells = InEachWorld told (WorldStands IsMatch books cells)

-- what a pool stands for, every image allows
abbrev pub StandsAllows : (ℕ → List ℕ → Replica → Type 0) → Type 0
StandsAllows IsMatch = (told : Option (List World)) (books : ℕ → BlockBooks) (cells : Cells) (image : Files) →
    PoolStands IsMatch told books cells → CanLeave told image → AllowsImage cells image

-- what stands for a block's cell has copies that match
abbrev pub BlockIsSound : (List ℕ → Replica → Type 0) → Type 0
BlockIsSound IsMatch = (view : View) (books : BlockBooks) (cell : Cell) → BlockStands IsMatch view books cell → HasSoundCopies IsMatch (files_in view)

-- every image of what a pool stands for is sound
abbrev pub StandsIsSound : (ℕ → List ℕ → Replica → Type 0) → Type 0
StandsIsSound IsMatch = (told : Option (List World)) (books : ℕ → BlockBooks) (cells : Cells) (image : Files) →
    PoolStands IsMatch told books cells → CanLeave told image → IsSoundBy IsMatch image

-- a call of the disk between files of one block
pub data CallsFilesOf (id : ℕ) (before : World) : World → Type 0 where
  a_create : (number vol : ℕ) (file : BlockFile) → IsTrue (is_file file) → CallsFilesOf id before (created (draft_at number vol (path_of id file)) before)
  a_publish : (number vol : ℕ) (from target : BlockFile) (bytes : List ℕ) → IsTrue (is_file from) → IsTrue (is_file target) →
      CallsFilesOf id before (published (draft_at number vol (path_of id from)) bytes (path_of id target) before)
  a_remove : (vol : ℕ) (file : BlockFile) → IsTrue (is_file file) → CallsFilesOf id before (removed vol (path_of id file) before)

-- a call between files of one block leaves what stands for every other block
abbrev pub OtherBlocksStand : (List ℕ → Replica → Type 0) → Type 0
OtherBlocksStand IsMatch = (before after : World) (id other : ℕ) (books : BlockBooks) (cell : Cell) →
    IsBlockId id → IsBlockId other → id ≢ other → CallsFilesOf id before after →
    BlockStands IsMatch (view_of before other) books cell → BlockStands IsMatch (view_of after other) books cell
