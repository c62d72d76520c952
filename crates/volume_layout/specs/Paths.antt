-- The names and paths of a pool's files, as texts. A path is relative to the pool's directory.
use Rattle.std.specs.Prelude.{ℕ, ◌<◌, ◌≤◌, ◌^◌, ◌/◌, ◌%◌, Bool, ◌&&◌, nat_le, nat_lt, List, ◌++◌, codes, decimal}

-- the range of a block's id
abbrev pub IsBlockId : ℕ → Type 0
IsBlockId id = (1 ≤ id) × (id < 2 ^ 63)

-- the range of a stamp
abbrev pub IsStamp : ℕ → Type 0
IsStamp stamp = (1 ≤ stamp) × (stamp < 2 ^ 63)

-- whether a number is a stamp
abbrev pub is_stamp : ℕ → Bool
is_stamp stamp = nat_le 1 stamp && nat_lt stamp (2 ^ 63)

-- `blk_<id>`
unfoldable pub block_name : ℕ → List ℕ
block_name id = codes "blk_" ++ decimal id

-- `blk_<id>_<stamp>.meta`
unfoldable pub meta_name : ℕ → ℕ → List ℕ
meta_name id stamp = block_name id ++ codes "_" ++ decimal stamp ++ codes ".meta"

-- the directory of finalised files with these two numbers
unfoldable pub dir_path : ℕ → ℕ → List ℕ
dir_path d1 d2 = codes "current/finalized/subdir" ++ decimal d1 ++ codes "/subdir" ++ decimal d2

-- the two numbers of a block's own directory
abbrev pub outer_dir : ℕ → ℕ
outer_dir id = id / 65536 % 32

abbrev pub inner_dir : ℕ → ℕ
inner_dir id = id / 256 % 32

-- the block's own directory of finalised files
unfoldable pub own_dir : ℕ → List ℕ
own_dir id = dir_path (outer_dir id) (inner_dir id)

-- the finalised block file
unfoldable pub block_path : ℕ → List ℕ
block_path id = own_dir id ++ codes "/" ++ block_name id

-- the finalised meta file of a stamp
unfoldable pub meta_path : ℕ → ℕ → List ℕ
meta_path id stamp = own_dir id ++ codes "/" ++ meta_name id stamp

-- the block file that is being written
unfoldable pub rbw_block : ℕ → List ℕ
rbw_block id = codes "current/rbw/" ++ block_name id

-- the meta file that is being written
unfoldable pub rbw_meta : ℕ → ℕ → List ℕ
rbw_meta id stamp = codes "current/rbw/" ++ meta_name id stamp

-- the temporary block file of a move
unfoldable pub tmp_block : ℕ → List ℕ
tmp_block id = codes "tmp/" ++ block_name id

-- the temporary meta file of a move
unfoldable pub tmp_meta : ℕ → ℕ → List ℕ
tmp_meta id stamp = codes "tmp/" ++ meta_name id stamp
