-- What an opening's books say of a block that waits, by the files that stand of it.
use Rattle.std.specs.Prelude.{ℕ, ◌≡◌, ◌≢◌, ◌↔◌, ◌<◌, ◌≤◌, ◌||◌, Bool, if◌then◌else◌, IsTrue, List, [], ◌∷◌, ◌++◌, map, length, AllPairs, Contains, None, Some, ◌⊎◌}
use Rattle.volume_layout.specs.Paths.{IsStamp}
use Rattle.volume_layout.specs.declared.block_file.BlockFile.{BlockFile}
use Rattle.volume_layout.specs.declared.block_file.BlockFile.TheVariants.{Block, WritingBlock, WritingMeta}
use Rattle.map_model.specs.Slots.{Slot, holds, is_standing, View}
use Rattle.map_model.specs.Stands.{is_waiting, Leftover, BlockBooks}
use Rattle.map_model.specs.Tenures.{books_of}
use Rattle.pool_open.specs.Plan.{held_file}
use Rattle.pool_open.specs.Found.{entry_of}

-- so many bytes stand at a place, where it holds a settled file
abbrev pub HasLength : Slot → ℕ → Type 0
HasLength slot len = (content : List ℕ) → slot ≡ holds content → len ≡ length content

-- a block file stands on the volume, finalised or being written
abbrev pub leaves_file : View → ℕ → Bool
leaves_file view vol = is_standing (view vol Block) || is_standing (view vol WritingBlock)

-- the files that stand of a block on a volume, as leftovers that are held: its block file, and what was being written, where
-- an `rbw` block file stands
abbrev pub kept_of : View → (vol stamp block_len writing_len : ℕ) → (metas : List ℕ) → List Leftover
kept_of view vol stamp block_len writing_len metas =
    (if is_standing (view vol Block) then held_file vol stamp block_len Block ∷ [] else [])
    ++ (if is_standing (view vol WritingBlock) then held_file vol stamp writing_len WritingBlock ∷ map (λ meta. held_file vol stamp 0 (WritingMeta meta)) metas else [])

-- these leftovers are the files that stand on the volume, each once
pub record WaitOn (view : View) (stamp vol : ℕ) (left : List Leftover) : Type 0 where
  pub block_len : ℕ
  pub writing_len : ℕ
  pub metas : List ℕ
  pub is : left ≡ kept_of view vol stamp block_len writing_len metas
  pub metas_are : (other : ℕ) → Contains metas other ↔ IsTrue (is_standing (view vol (WritingMeta other)))
  pub once : AllPairs (λ meta other. meta ≢ other) metas
  pub block : HasLength (view vol Block) block_len
  pub writing : HasLength (view vol WritingBlock) writing_len

-- and on several volumes, one behind the other
abbrev pub WaitOnEach : View → (stamp : ℕ) → (vols : List ℕ) → List Leftover → Type 0
WaitOnEach view stamp [] left = left ≡ []
WaitOnEach view stamp (vol ∷ vols) left =
    (own : List Leftover) × (rest : List Leftover) × (left ≡ own ++ rest) × WaitOn view stamp vol own × WaitOnEach view stamp vols rest

-- the stamp is the greatest of a meta that was being written, or 1
pub record IsGreatestWritten (view : View) (stamp : ℕ) : Type 0 where
  pub in_range : IsStamp stamp
  pub above : (vol other : ℕ) → IsTrue (is_standing (view vol (WritingMeta other))) → other ≤ stamp
  pub one_of : ((vol : ℕ) × IsTrue (is_standing (view vol (WritingMeta stamp)))) ⊎ (stamp ≡ 1)

-- this is the lowest volume on which a block file stands
pub record IsLowest (view : View) (vol : ℕ) : Type 0 where
  pub leaves : IsTrue (leaves_file view vol)
  pub lowest : (other : ℕ) → IsTrue (leaves_file view other) → vol ≤ other

-- the block file whose length an entry has: the one that was being written, where it stands, else the finalised one
abbrev pub first_file : View → ℕ → BlockFile
first_file view vol = if is_standing (view vol WritingBlock) then WritingBlock else Block

-- THE BOOKS OF A BLOCK THAT WAITS: the greatest stamp of a meta that was being written, or 1; the lowest volume on which a
-- block file stands, with the length of the one there that was being written, else of the finalised one; and the files that
-- stand, each once, by the volumes in order.
pub record WaitsAs (view : View) (books : BlockBooks) : Type 0 where
  pub vol : ℕ
  pub rev : ℕ
  pub stamp : ℕ
  pub len : ℕ
  pub left : List Leftover
  pub vols : List ℕ
  pub is : books ≡ books_of (Some (entry_of vol rev stamp len is_waiting)) left None
  pub greatest : IsGreatestWritten view stamp
  pub lowest : IsLowest view vol
  pub len_is : HasLength (view vol (first_file view vol)) len
  pub rise : AllPairs (λ one other. one < other) vols
  pub all : (other : ℕ) → IsTrue (leaves_file view other) → Contains vols other
  pub held : WaitOnEach view stamp vols left
