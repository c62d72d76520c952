-- What an opening gives.
use Rattle.std.specs.Prelude.{ℕ, ◌≡◌, ◌⊎◌, List, Option, IsSome, IsSomeAnd, Result, Ok, Err}
use Rattle.volume_layout.specs.Paths.{IsBlockId}
use Rattle.disk_model.specs.declared.disks.PoolDisks.{Ghosts}
use Rattle.disk_model.specs.declared.disks.Draft as drafts
use Rattle.disk_model.specs.declared.disks.SealedDraft as sealed
use Rattle.disk_model.specs.declared.disks.Reader as readers
use Rattle.disk_model.specs.Files.{Files}
use Rattle.disk_model.specs.Worlds.{World}
use Rattle.disk_model.specs.Told.{IsWorldOf, InEachWorld, CanLeave}
use Rattle.disk_model.specs.Moments.{AddsOnly}
use Rattle.map_model.specs.Cells.{Replica, Cell, Cells, absent, final, waiting}
use Rattle.map_model.specs.Copies.{BlockFiles, Spot, own_spot, IsCopy, IsGreatestCopy, IsAlone, OneWhole}
use Rattle.map_model.specs.Openings.{MakesCells, shown_files, ReadsAlike}
use Rattle.map_model.specs.Sound.{Metas, Knowledge, matching, exactly, Fits, HasSoundCopies, IsSound}
use Rattle.map_model.specs.Slots.{view_of}
use Rattle.map_model.specs.Stands.{BlockBooks}
use Rattle.pool_state.specs.declared.pool_record.Pool.{Pool}
use Rattle.pool_state.specs.Stands.{PoolStands}
use Rattle.pool_open.specs.declared.opening.OpenFault.{OpenFault}
use Rattle.pool_open.specs.declared.opening.OpenFault.TheVariants.{Failed, Memory}
use Rattle.pool_open.specs.Waiting.{WaitsAs}

-- the disks that a fault gives back
abbrev pub fault_disks : {D : Type 0} → OpenFault D → D
fault_disks (Failed disks) = disks
fault_disks (Memory disks) = disks

-- the disks in the pool, or in the fault
abbrev pub disks_of : {D S T R : Type 0} {g : Ghosts D S T R} {d : drafts.Ghosts T S} {s : sealed.Ghosts S} {r : readers.Ghosts R} →
    Result (Pool D S T R g d s r) (OpenFault D) → D
disks_of (Ok pool) = pool.disks
disks_of (Err fault) = fault_disks fault

-- so much is known of the meta files of the copies that are read of a world
abbrev pub HasFiles : Knowledge → World → Type 0
HasFiles known world = (id : ℕ) → IsBlockId id → HasSoundCopies (Fits known id) (shown_files world id)

-- the copies that are read of a world match their meta files
abbrev pub HasSoundFiles : World → Type 0
HasSoundFiles world = HasFiles matching world

-- of each block of the world that has a copy one whole copy stands, and no other finalised file
abbrev pub HasWholeFiles : World → Type 0
HasWholeFiles world = (id : ℕ) → IsBlockId id → (spot : Spot) (replica : Replica) → IsCopy (shown_files world id) spot replica → IsAlone (shown_files world id) spot

-- the image reads as the world does; its copies match their meta files, and are whole, where those of the world are
pub record ReadsBack (world : World) (image : Files) : Type 0 where
  pub alike : ReadsAlike (shown_files world) image
  pub sound : HasSoundFiles world → IsSound image
  pub whole : HasWholeFiles world → OneWhole image

-- the image reads as one of these worlds does
abbrev pub ReadsAsOne : Option (List World) → Files → Type 0
ReadsAsOne told image = (world : World) × IsWorldOf told world × ReadsBack world image

-- the entry's volume is that of the copy that is read
abbrev pub KeptOn : BlockFiles → BlockBooks → Replica → Type 0
KeptOn files books replica = IsSomeAnd books.entry (λ entry. IsGreatestCopy files (own_spot entry.vol) replica)

-- The cells are those of a world that was told, and so are the meta files, the volumes of the replicas, and the books of the
-- blocks that wait: it was shown, and every image that a crash could leave since reads as it does.
pub record Shows (told : Option (List World)) (cells : Cells) (metas : Metas) (books : ℕ → BlockBooks) (past since : ℕ → Files → Type 0) : Type 0 where
  pub world : World
  pub is : IsWorldOf told world
  pub made : MakesCells (shown_files world) cells
  pub metas_are : HasFiles (exactly metas) world
  pub placed : (id : ℕ) → IsBlockId id → (replica : Replica) → cells id ≡ final replica → KeptOn (shown_files world id) (books id) replica
  pub waiting : (id : ℕ) → IsBlockId id → cells id ≡ waiting → WaitsAs (view_of world id) (books id)
  pub images : AddsOnly past since (ReadsAlike (shown_files world))

-- no writer is open, and nothing is in doubt
abbrev pub IsOpened : Cell → Type 0
IsOpened cell = (cell ≡ absent) ⊎ (((replica : Replica) × (cell ≡ final replica)) ⊎ (cell ≡ waiting))

-- AN OPENING: disks that told some worlds before it and tell others after it, and books which stand for cells. Where the disks
-- tell, those are the cells of one world, and the meta files and the books of the blocks that wait are its own; what else is
-- known of all worlds' meta files, is known by the pool. Each block has one whole copy at most.
pub record Opens (before after : Option (List World)) (volumes : ℕ) (books : ℕ → BlockBooks) (past since : ℕ → Files → Type 0) : Type 0 where
  pub cells : Cells
  pub metas : Metas
  pub stands : PoolStands after volumes books (exactly metas) cells
  pub stands_by : (known : Knowledge) → InEachWorld before (HasFiles known) → PoolStands after volumes books known cells
  pub opened : (id : ℕ) → IsBlockId id → IsOpened (cells id)
  pub shown : IsSome before → Shows before cells metas books past since
  pub whole : (image : Files) → CanLeave after image → OneWhole image
