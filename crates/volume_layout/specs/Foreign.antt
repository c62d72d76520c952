-- The files of a volume that aren't a block's.
use Rattle.std.specs.Prelude.{◌≡◌, ◌≢◌, ◌<◌, ℕ, false, Bool, IsTrue, ◌||◌, List, ◌++◌, codes, nat_eq}
use Rattle.std.specs.List.{starts_with}
use Rattle.volume_layout.specs.Paths.{IsBlockId, IsStamp, block_name, meta_name, dir_path, own_dir}
use Rattle.volume_layout.specs.Aside.{is_aside}
use Rattle.volume_layout.specs.Names.{Names}
use Rattle.volume_layout.specs.declared.block_file.BlockFile.{BlockFile}
use Rattle.volume_layout.specs.BlockFiles.{path_of, is_file}
use Rattle.volume_layout.specs.declared.names.Named.TheVariants.{Other}

-- the path stands under `tmp`
abbrev pub is_temporary : List ℕ → Bool
is_temporary path = starts_with nat_eq path (codes "tmp/")

-- WHAT ISN'T A BLOCK'S: a path that doesn't stand under `tmp` and is that of no block file and of no meta file, neither in a
-- block's own directory nor in `current/rbw`.
pub record IsForeign (path : List ℕ) : Type 0 where
  pub not_temporary : is_temporary path ≡ false
  pub no_file : (id : ℕ) (file : BlockFile) → IsBlockId id → IsTrue (is_file file) → path ≢ path_of id file

-- a name in a directory of finalised files
abbrev pub in_dir : (d1 d2 : ℕ) → List ℕ → List ℕ
in_dir d1 d2 name = dir_path d1 d2 ++ codes "/" ++ name

-- the path stands under `tmp` or `current/rbw`, or in a directory of finalised files
abbrev pub is_where_blocks_are : List ℕ → Bool
is_where_blocks_are path = is_aside path || starts_with nat_eq path (codes "current/finalized/subdir")

-- what stands elsewhere isn't a block's
abbrev pub ElsewhereIsForeign : Type 0
ElsewhereIsForeign = (path : List ℕ) → is_where_blocks_are path ≡ false → IsForeign path

-- nor is what has another name, in `current/rbw` or in a directory of finalised files
abbrev pub OtherNamesAreForeign : Type 0
OtherNamesAreForeign = (name : List ℕ) → Names name Other → IsForeign (codes "current/rbw/" ++ name)
    × ((d1 d2 : ℕ) → d1 < 32 → d2 < 32 → IsForeign (in_dir d1 d2 name))

-- nor is a file with the name of a block file or a meta file in another directory than the block's own
abbrev pub StraysAreForeign : Type 0
StraysAreForeign = (d1 d2 id : ℕ) → d1 < 32 → d2 < 32 → IsBlockId id → dir_path d1 d2 ≢ own_dir id → IsForeign (in_dir d1 d2 (block_name id))
    × ((stamp : ℕ) → IsStamp stamp → IsForeign (in_dir d1 d2 (meta_name id stamp)))
