-- What the readers of a pair that was lent give.
use Rattle.std.specs.Prelude.{ℕ, ◌≡◌, ◌+◌, ◌<◌, ◌≤◌, ◌^◌, ◌⊎◌, List, [], length, Option, Some, None, IsSome, IsSomeAnd}
use Rattle.disk_model.specs.declared.disks.PoolDisks.{Ghosts}
use Rattle.disk_model.specs.declared.disks.Draft as drafts
use Rattle.disk_model.specs.declared.disks.SealedDraft as sealed
use Rattle.disk_model.specs.declared.disks.Reader as readers
use Rattle.disk_model.specs.Causes.{Rose}
use Rattle.disk_model.specs.Marks.{Mark, mark_of}
use Rattle.disk_model.specs.Worlds.{World}
use Rattle.disk_model.specs.Told.{InEachWorld}
use Rattle.map_model.specs.Cells.{Replica, Cell, final}
use Rattle.volume_layout.specs.declared.block_file.BlockFile.TheVariants.{Block, Meta}
use Rattle.volume_layout.specs.BlockFiles.{path_of}
use Rattle.map_model.specs.Sound.{Knowledge, Fits}
use Rattle.map_model.specs.Stands.{Entry}
use Rattle.pool_state.specs.declared.pool_record.Pool.{Pool}
use Rattle.pool_state.specs.declared.read_pair.ReadPair.{ReadPair}

-- the bytes that an optional reader gives, where it tells them; none is read as a file without bytes
abbrev pub reader_bytes : {R : Type 0} → (R → Option (List ℕ)) → Option R → Option (List ℕ)
reader_bytes bytes None = Some []
reader_bytes bytes (Some reader) = bytes reader

-- the bytes of a pair's block file
abbrev pub block_bytes : {D S T R : Type 0} → (R → Option (List ℕ)) → ReadPair D S T R → Option (List ℕ)
block_bytes bytes pair = reader_bytes bytes pair.block

-- and of its meta file
abbrev pub meta_bytes : {D S T R : Type 0} → (R → Option (List ℕ)) → ReadPair D S T R → Option (List ℕ)
meta_bytes bytes pair = reader_bytes bytes pair.meta

-- these bytes are told, fewer than 2^64, and are what is known of the replica's meta file
pub record IsMetaOf (known : Knowledge) (id : ℕ) (told : Option (List ℕ)) (replica : Replica) : Type 0 where
  pub content : List ℕ
  pub is : told ≡ Some content
  pub few : length content < 2 ^ 64
  pub matches : Fits known id content replica

-- The block's cell is final; this is the replica's stamp and length, and where the disks tell, these are its bytes and
-- those of its meta file.
pub record Lends (known : Knowledge) (id : ℕ) (told : Option (List World)) (cell : Cell) (stamp len : ℕ)
    (bytes sums : Option (List ℕ)) : Type 0 where
  pub replica : Replica
  pub cell_is : cell ≡ final replica
  pub stamp_is : stamp ≡ replica.stamp
  pub len_is : len ≡ length replica.bytes
  pub bytes_are : IsSome told → bytes ≡ Some replica.bytes
  pub meta_is : IsSome told → IsMetaOf known id sums replica

-- the file that an optional reader is of: none where there is no reader, else the bytes that it tells
abbrev pub file_of : {R : Type 0} → (R → Option (List ℕ)) → Option R → Option (List ℕ)
file_of bytes None = None
file_of bytes (Some reader) = bytes reader

-- in each world these are a block's file and its meta file of this stamp, on this volume
pub record AreFiles (told : Option (List World)) (id vol stamp : ℕ)
    (block_file meta_file : Option (List ℕ)) : Type 0 where
  pub block_is : InEachWorld told (λ world. world.settled vol (path_of id Block) ≡ block_file)
  pub meta_is : InEachWorld told (λ world. world.settled vol (path_of id (Meta stamp)) ≡ meta_file)

-- some reader of this number failed
pub record FaultyReader {R : Type 0} (number_of faults_of : R → ℕ) (number : ℕ) : Type 0 where
  pub one : R
  pub faulty : 0 < faults_of one
  pub number_is : number_of one ≡ number

-- there is a reader, and some reader of its number failed
abbrev pub IsFaulty : {R : Type 0} → (R → ℕ) → (R → ℕ) → Option R → Type 0
IsFaulty number_of faults_of file = IsSomeAnd file (λ reader. FaultyReader number_of faults_of (number_of reader))

-- one of the pair's files has a reader, and some reader of its number failed
abbrev pub FailedToRead : {D S T R : Type 0} → (R → ℕ) → (R → ℕ) → ReadPair D S T R → Type 0
FailedToRead number_of faults_of pair = IsFaulty number_of faults_of pair.block ⊎ IsFaulty number_of faults_of pair.meta

-- two files were looked for: both were lent, so that two numbers were given, or one was absent
abbrev pub LooksForTwo : Mark → Mark → Type 0
LooksForTwo before after = Rose before.absences after.absences ⊎ (before.next_number + 2 ≤ after.next_number)

module _ {D S T R : Type 0} {g : Ghosts D S T R} {d : drafts.Ghosts T S} {s : sealed.Ghosts S} {r : readers.Ghosts R} where
  -- between the two pools a block's file and its meta file were looked for
  abbrev pub LooksForPair : (old new : Pool D S T R g d s r) → Type 0
  LooksForPair old new = LooksForTwo (mark_of g old.disks) (mark_of g new.disks)

  -- the readers that were lent of a final cell tell the replica's bytes and those of its meta file
  abbrev pub IsLent : Knowledge → (id : ℕ) → Pool D S T R g d s r → Cell → ReadPair D S T R → Type 0
  IsLent known id pool cell pair =
      Lends known id (g.worlds pool.disks) cell pair.stamp pair.len (block_bytes r.bytes pair) (meta_bytes r.bytes pair)

  -- they are the files that stand on this volume
  abbrev pub AreFilesOf : Pool D S T R g d s r → (id : ℕ) → Entry → ReadPair D S T R → Type 0
  AreFilesOf pool id entry pair =
      AreFiles (g.worlds pool.disks) id entry.vol entry.stamp (file_of r.bytes pair.block) (file_of r.bytes pair.meta)
