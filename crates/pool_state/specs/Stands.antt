-- When a pool stands for cells.
use Rattle.std.specs.Prelude.{ℕ, ◌≡◌, ◌≤◌, ◌==◌, if◌then◌else◌, IsFalse, List, [], Option, None, Some, IfSome}
use Rattle.disk_model.specs.declared.disks.PoolDisks.{Ghosts}
use Rattle.disk_model.specs.declared.disks.Draft as drafts
use Rattle.disk_model.specs.declared.disks.SealedDraft as sealed
use Rattle.disk_model.specs.declared.disks.Reader as readers
use Rattle.disk_model.specs.Worlds.{World}
use Rattle.disk_model.specs.Told.{InEachWorld}
use Rattle.volume_layout.specs.Paths.{IsBlockId}
use Rattle.map_model.specs.World.{DraftsAside}
use Rattle.map_model.specs.Sound.{Knowledge, nothing, Fits}
use Rattle.map_model.specs.Cells.{Cell, Cells}
use Rattle.volume_layout.specs.declared.block_file.BlockFile.{BlockFile}
use Rattle.map_model.specs.Slots.{is_standing, view_of}
use Rattle.map_model.specs.Stands.{EntryState, is_waiting, Entry, Agrees, Each, base_of, BlockBooks, BlockStands}
use Rattle.pool_state.specs.declared.pool_record.Pool.{Pool}
use Rattle.pool_state.specs.Books.{block_books}
pub use Rattle.pool_state.specs.Volumes.{IsVolume}

-- the cells with one of them changed
abbrev pub with_cell : Cells → ℕ → Cell → Cells
with_cell cells id cell = λ other. if other == id then cell else cells other

-- the entry isn't that of a block that waits
abbrev pub IsNoWait : EntryState → Type 0
IsNoWait is_waiting = ⊥
IsNoWait state = Unit {0}

abbrev pub IsNotWaiting : Option Entry → Type 0
IsNotWaiting None = Unit {0}
IsNotWaiting (Some entry) = IsNoWait entry.state

-- The books of a block fit its cell: the entry says what the cell says, all that they name is on one of the volumes, only
-- a block that waits has leftovers, and no entry keeps a base.
pub record BooksFit (volumes : ℕ) (books : BlockBooks) (cell : Cell) : Type 0 where
  pub agrees : Agrees books.entry cell
  pub placed : IfSome books.entry (λ entry. IsVolume volumes entry.vol)
  pub left_placed : Each (λ leftover. IsVolume volumes leftover.vol) books.leftovers
  pub clean : IsNotWaiting books.entry → books.leftovers ≡ []
  pub fresh : IfSome books.entry (λ entry. base_of entry.state ≡ None)

-- Disks and books stand for cells: the books of each block fit its cell, and in each world its files stand for the cell
-- and the books. The meta file of each replica is as it is known.
pub record PoolStands (told : Option (List World)) (volumes : ℕ) (books : ℕ → BlockBooks) (known : Knowledge) (cells : Cells) : Type 0 where
  pub some_volume : 1 ≤ volumes
  pub fit : (id : ℕ) → IsBlockId id → BooksFit volumes (books id) (cells id)
  pub blocks : InEachWorld told (λ world. (id : ℕ) → IsBlockId id → BlockStands (Fits known id) (view_of world id) (books id) (cells id))
  pub aside : InEachWorld told DraftsAside

-- no file of a block stands in any world, and every draft stands aside
pub record HoldNoBlock (told : Option (List World)) : Type 0 where
  pub none : InEachWorld told (λ world. (id : ℕ) → IsBlockId id → (vol : ℕ) (file : BlockFile) → IsFalse (is_standing (view_of world id vol file)))
  pub aside : InEachWorld told DraftsAside

module _ {D S T R : Type 0} {g : Ghosts D S T R} {d : drafts.Ghosts T S} {s : sealed.Ghosts S} {r : readers.Ghosts R} where
  -- a pool stands for cells, of whose meta files so much is known
  abbrev pub Stands : Pool D S T R g d s r → Knowledge → Cells → Type 0
  Stands pool = PoolStands (g.worlds pool.disks) (g.volume_count pool.disks) (block_books pool.map)

  -- a pool stands for some cells
  abbrev pub StandsForSome : Pool D S T R g d s r → Type 0
  StandsForSome pool = (cells : Cells) × Stands pool nothing cells
