-- The directories in which files of blocks are looked for.
use Rattle.std.specs.Prelude.{ℕ, Bool, true, false, ◌==◌, ◌&&◌, ◌||◌, List, codes}
use Rattle.volume_layout.specs.Paths.{dir_path, outer_dir, inner_dir}
use Rattle.volume_layout.specs.declared.block_file.BlockFile.{BlockFile}
use Rattle.volume_layout.specs.declared.block_file.BlockFile.TheVariants.{Block, Meta, WritingBlock, WritingMeta}
use Rattle.pool_survey.specs.declared.naming.Directory.{Directory}
use Rattle.pool_survey.specs.declared.naming.Directory.TheVariants.{Writing, Finalised}

-- its path
abbrev pub directory_path : Directory → List ℕ
directory_path Writing = codes "current/rbw"
directory_path (Finalised d1 d2) = dir_path d1 d2

-- the file is finalised
abbrev pub is_finalised : BlockFile → Bool
is_finalised Block = true
is_finalised (Meta stamp) = true
is_finalised file = false

-- the file is being written
abbrev pub is_writing : BlockFile → Bool
is_writing WritingBlock = true
is_writing (WritingMeta stamp) = true
is_writing file = false

-- the file is looked for, and no temporary one
abbrev pub is_looked_for : BlockFile → Bool
is_looked_for file = is_finalised file || is_writing file

-- the directory is that of this file of the block
abbrev pub is_in : Directory → ℕ → BlockFile → Bool
is_in Writing id file = is_writing file
is_in (Finalised d1 d2) id file = is_finalised file && (outer_dir id == d1) && (inner_dir id == d2)

-- the block file of a block, in such a directory
abbrev pub block_in : Directory → BlockFile
block_in Writing = WritingBlock
block_in (Finalised d1 d2) = Block

-- and a meta file
abbrev pub meta_in : Directory → ℕ → BlockFile
meta_in Writing stamp = WritingMeta stamp
meta_in (Finalised d1 d2) stamp = Meta stamp
