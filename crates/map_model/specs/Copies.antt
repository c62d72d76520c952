-- Which copies of a block stand in an image, and which of them is read.
use Rattle.std.specs.Prelude.{ℕ, ◌≡◌, Bool, List, length, Option, Some, None, IsSome, is_some, ◌&&◌, if◌then◌else◌}
use Rattle.volume_layout.specs.Paths.{IsBlockId, is_stamp, block_path, meta_path, rbw_block, rbw_meta}
use Rattle.volume_layout.specs.Choice.{IsOnly, GateKeeps, AtLeast}
use Rattle.disk_model.specs.Files.{Files}
use Rattle.map_model.specs.Cells.{Replica}

-- where a finalised pair of a block can stand: a volume, in the block's own directory
pub record Spot : Type 0 where
  pub vol : ℕ

-- a volume's spot in the block's own directory
abbrev pub own_spot : ℕ → Spot
own_spot vol = record { vol = vol }

-- the order of spots: by volume
abbrev pub spot_rank : Spot → ℕ
spot_rank spot = spot.vol

-- the block file at a spot
abbrev pub spot_block : Spot → ℕ → List ℕ
spot_block spot id = block_path id

-- the meta file of a stamp at a spot
abbrev pub spot_meta : Spot → ℕ → ℕ → List ℕ
spot_meta spot id stamp = meta_path id stamp

-- one block's files: the finalised ones at each spot, and which of its `rbw` files stand on each volume
pub record BlockFiles : Type 0 where
  pub block : Spot → Option (List ℕ)
  pub meta : Spot → ℕ → Option (List ℕ)
  pub writing : ℕ → Bool
  pub writing_meta : ℕ → ℕ → Bool

-- the files of one block, where the settled files are these and something stands at these paths
unfoldable pub files_of : Files → (ℕ → List ℕ → Bool) → ℕ → BlockFiles
files_of settled stands id = record {
  block = λ spot. settled spot.vol (spot_block spot id);
  meta = λ spot stamp. if is_stamp stamp then settled spot.vol (spot_meta spot id stamp) else None;
  writing = λ vol. stands vol (rbw_block id);
  writing_meta = λ vol stamp. is_stamp stamp && stands vol (rbw_meta id stamp);
}

-- the files of one block in an image
abbrev pub block_files : Files → ℕ → BlockFiles
block_files image id = files_of image (λ vol path. is_some (image vol path)) id

-- a meta of this stamp stands at the spot
abbrev pub HasMeta : BlockFiles → Spot → ℕ → Type 0
HasMeta files spot stamp = IsSome (files.meta spot stamp)

-- it is the only meta there
abbrev pub IsOnlyMeta : BlockFiles → Spot → ℕ → Type 0
IsOnlyMeta files spot stamp = IsOnly (HasMeta files spot) stamp

-- The stamp that the gate keeps: that of the greatest meta; but where two or more stand, and an `rbw` file of the
-- block on the volume, the greatest is left out.
abbrev pub KeepsStamp : BlockFiles → Spot → ℕ → Type 0
KeepsStamp files spot stamp = GateKeeps (HasMeta files spot) (files.writing spot.vol) stamp

-- a copy at a spot: the block file's bytes under the stamp that the gate keeps
pub record IsCopy (files : BlockFiles) (spot : Spot) (replica : Replica) : Type 0 where
  pub block : files.block spot ≡ Some replica.bytes
  pub stamp : KeepsStamp files spot replica.stamp

-- one copy is at least another: by stamp, then length, then the lower volume
abbrev pub AtLeastCopy : Spot → Replica → Spot → Replica → Type 0
AtLeastCopy spot replica other_spot other =
    AtLeast replica.stamp (length replica.bytes) (spot_rank spot) other.stamp (length other.bytes) (spot_rank other_spot)

-- the copy that is read
pub record IsGreatestCopy (files : BlockFiles) (spot : Spot) (replica : Replica) : Type 0 where
  pub copy : IsCopy files spot replica
  pub greatest : (other_spot : Spot) (other : Replica) → IsCopy files other_spot other → AtLeastCopy spot replica other_spot other

-- what is read of a block: its greatest copy, or nothing where it has no copy
abbrev pub ReadsAs : BlockFiles → Option Replica → Type 0
ReadsAs files None = (spot : Spot) (replica : Replica) → IsCopy files spot replica → ⊥
ReadsAs files (Some replica) = (spot : Spot) × IsGreatestCopy files spot replica

-- what is read of each block of an image
abbrev pub Represents : Files → (ℕ → Option Replica) → Type 0
Represents image replicas = (id : ℕ) → IsBlockId id → ReadsAs (block_files image id) (replicas id)

-- no finalised file of the block stands but at this spot, where one meta stands
pub record IsAlone (files : BlockFiles) (spot : Spot) : Type 0 where
  pub one_meta : (stamp : ℕ) × IsOnlyMeta files spot stamp
  pub no_block : (other : Spot) → IsSome (files.block other) → other ≡ spot
  pub no_meta : (other : Spot) (stamp : ℕ) → HasMeta files other stamp → other ≡ spot

-- each block that has a copy has one whole copy, and no other finalised file
abbrev pub OneWhole : Files → Type 0
OneWhole image = (id : ℕ) → IsBlockId id → (spot : Spot) (replica : Replica) →
    IsCopy (block_files image id) spot replica → IsAlone (block_files image id) spot
