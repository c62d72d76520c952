-- What was found of some files of blocks: those of a directory, or of several.
use Rattle.std.specs.Prelude.{◌≡◌, ℕ, Bool, false, ◌&&◌, ◌==◌, nat_eq, nat_lt, IsTrue, IsFalse, Option}
use Rattle.std.specs.List.{list_any}
use Rattle.std.specs.BTreeMap.{BTreeMap}
use Rattle.volume_layout.specs.Paths.{IsBlockId, outer_dir, inner_dir}
use Rattle.disk_model.specs.Worlds.{World}
use Rattle.volume_layout.specs.declared.block_file.BlockFile.{BlockFile}
use Rattle.volume_layout.specs.declared.block_file.BlockFile.TheVariants.{Block, Meta, WritingBlock, WritingMeta, TemporaryBlock, TemporaryMeta}
use Rattle.volume_layout.specs.BlockFiles.{is_file}
use Rattle.map_model.specs.Slots.{is_standing, view_of}
use Rattle.pool_survey.specs.declared.found.FoundFiles.{FoundFiles}
use Rattle.pool_survey.specs.Found.{AreStamps, found_of, has_block, metas_of, has_writing, writing_metas_of}
use Rattle.pool_survey.specs.Directories.{is_finalised}

-- the file was found
abbrev pub is_found : Option FoundFiles → BlockFile → Bool
is_found found Block = has_block found
is_found found (Meta stamp) = list_any (nat_eq stamp) (metas_of found)
is_found found WritingBlock = has_writing found
is_found found (WritingMeta stamp) = list_any (nat_eq stamp) (writing_metas_of found)
is_found found TemporaryBlock = false
is_found found (TemporaryMeta stamp) = false

-- the stamps that were found, each once
pub record AreFiles (found : Option FoundFiles) : Type 0 where
  pub metas : AreStamps (metas_of found)
  pub writing_metas : AreStamps (writing_metas_of found)

-- some files of blocks
abbrev pub Region : Type 0
Region = ℕ → BlockFile → Bool

-- the finalised files in the directories of one first number
abbrev pub in_row : ℕ → Region
in_row d1 id file = is_finalised file && (outer_dir id == d1)

-- those of them in the directories before one second number
abbrev pub in_row_before : ℕ → ℕ → Region
in_row_before d1 d2 id file = is_finalised file && (outer_dir id == d1) && nat_lt (inner_dir id) d2

-- the finalised files in the directories before one first number
abbrev pub in_rows_before : ℕ → Region
in_rows_before d1 id file = is_finalised file && nat_lt (outer_dir id) d1

-- the finalised files
abbrev pub in_finalised : Region
in_finalised id file = is_finalised file

-- none of the files was found
abbrev pub NoneFound : Region → BTreeMap ℕ FoundFiles → Type 0
NoneFound region blocks = (id : ℕ) → IsBlockId id → (file : BlockFile) → IsTrue (is_file file) → IsTrue (region id file) →
    IsFalse (is_found (found_of blocks id) file)

-- what was found of the files is what stands of them
abbrev pub AreExact : Region → World → ℕ → BTreeMap ℕ FoundFiles → Type 0
AreExact region world vol blocks = (id : ℕ) → IsBlockId id → (file : BlockFile) → IsTrue (is_file file) → IsTrue (region id file) →
    is_found (found_of blocks id) file ≡ is_standing (view_of world id vol file)

-- what was found of the other files is what was found before
abbrev pub AreSameOutside : Region → BTreeMap ℕ FoundFiles → BTreeMap ℕ FoundFiles → Type 0
AreSameOutside region before now = (id : ℕ) → IsBlockId id → (file : BlockFile) → IsTrue (is_file file) → IsFalse (region id file) →
    is_found (found_of now id) file ≡ is_found (found_of before id) file
