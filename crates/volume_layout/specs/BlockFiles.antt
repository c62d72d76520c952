-- The files of one block on a volume, and their paths.
use Rattle.std.specs.Prelude.{ℕ, ◌≡◌, Bool, true, false, IsTrue, ◌==◌, List, codes}
use Rattle.volume_layout.specs.Paths.{IsBlockId, is_stamp, block_name, meta_name, own_dir, block_path, meta_path, rbw_block, rbw_meta, tmp_block, tmp_meta}
use Rattle.volume_layout.specs.Aside.{is_aside}
use Rattle.volume_layout.specs.declared.block_file.BlockFile.{BlockFile}
use Rattle.volume_layout.specs.declared.block_file.BlockFile.TheVariants.{Block, Meta, WritingBlock, WritingMeta, TemporaryBlock, TemporaryMeta}

-- a file's path
abbrev pub path_of : ℕ → BlockFile → List ℕ
path_of id Block = block_path id
path_of id (Meta stamp) = meta_path id stamp
path_of id WritingBlock = rbw_block id
path_of id (WritingMeta stamp) = rbw_meta id stamp
path_of id TemporaryBlock = tmp_block id
path_of id (TemporaryMeta stamp) = tmp_meta id stamp

-- its stamp is in the range of stamps
abbrev pub is_file : BlockFile → Bool
is_file Block = true
is_file (Meta stamp) = is_stamp stamp
is_file WritingBlock = true
is_file (WritingMeta stamp) = is_stamp stamp
is_file TemporaryBlock = true
is_file (TemporaryMeta stamp) = is_stamp stamp

-- the directory that it stands in
abbrev pub dir_of : ℕ → BlockFile → List ℕ
dir_of id Block = own_dir id
dir_of id (Meta stamp) = own_dir id
dir_of id WritingBlock = codes "current/rbw"
dir_of id (WritingMeta stamp) = codes "current/rbw"
dir_of id TemporaryBlock = codes "tmp"
dir_of id (TemporaryMeta stamp) = codes "tmp"

-- its name in that directory
abbrev pub name_of : ℕ → BlockFile → List ℕ
name_of id Block = block_name id
name_of id (Meta stamp) = meta_name id stamp
name_of id WritingBlock = block_name id
name_of id (WritingMeta stamp) = meta_name id stamp
name_of id TemporaryBlock = block_name id
name_of id (TemporaryMeta stamp) = meta_name id stamp

-- it stands under `tmp` or `current/rbw`
abbrev pub is_aside_file : BlockFile → Bool
is_aside_file Block = false
is_aside_file (Meta stamp) = false
is_aside_file WritingBlock = true
is_aside_file (WritingMeta stamp) = true
is_aside_file TemporaryBlock = true
is_aside_file (TemporaryMeta stamp) = true

-- the two are the same file of a block
abbrev pub same_file : BlockFile → BlockFile → Bool
same_file Block Block = true
same_file (Meta stamp) (Meta other) = stamp == other
same_file WritingBlock WritingBlock = true
same_file (WritingMeta stamp) (WritingMeta other) = stamp == other
same_file TemporaryBlock TemporaryBlock = true
same_file (TemporaryMeta stamp) (TemporaryMeta other) = stamp == other
same_file file other = false

-- different files of blocks have different paths
abbrev pub PathsApart : Type 0
PathsApart = (id other_id : ℕ) (file other : BlockFile) → IsBlockId id → IsBlockId other_id → IsTrue (is_file file) → IsTrue (is_file other) →
    path_of id file ≡ path_of other_id other → (id ≡ other_id) × (file ≡ other)

-- the files under `tmp` and `current/rbw` are those that aren't finalised
abbrev pub FilesAside : Type 0
FilesAside = (id : ℕ) (file : BlockFile) → is_aside (path_of id file) ≡ is_aside_file file
