-- What was found of a block.
use Rattle.std.specs.Prelude.{◌≡◌, ◌≢◌, ℕ, Bool, false, List, [], All, AllPairs, Option, None, Some}
use Rattle.std.specs.Ordering.{nat_cmp}
use Rattle.std.specs.BTreeMap.{BTreeMap, get}
use Rattle.volume_layout.specs.Paths.{IsBlockId, IsStamp}
use Rattle.pool_survey.specs.declared.found.FoundFiles.{FoundFiles}

-- what was found of a block, if anything
abbrev pub found_of : BTreeMap ℕ FoundFiles → ℕ → Option FoundFiles
found_of blocks id = get nat_cmp blocks id

-- a finalised block file was found
abbrev pub has_block : Option FoundFiles → Bool
has_block None = false
has_block (Some files) = files.block

-- the stamps of the finalised metas that were found
abbrev pub metas_of : Option FoundFiles → List ℕ
metas_of None = []
metas_of (Some files) = files.metas.items

-- a block file that was being written was found
abbrev pub has_writing : Option FoundFiles → Bool
has_writing None = false
has_writing (Some files) = files.writing

-- the stamps of the metas that were being written
abbrev pub writing_metas_of : Option FoundFiles → List ℕ
writing_metas_of None = []
writing_metas_of (Some files) = files.writing_metas.items

-- these are stamps, each once
pub record AreStamps (stamps : List ℕ) : Type 0 where
  pub in_range : All IsStamp stamps
  pub once : AllPairs (λ stamp other. stamp ≢ other) stamps

-- these are blocks, with the stamps of their metas
pub record AreBlocks (blocks : BTreeMap ℕ FoundFiles) : Type 0 where
  pub ids : (id : ℕ) (files : FoundFiles) → found_of blocks id ≡ Some files → IsBlockId id
  pub metas : (id : ℕ) → AreStamps (metas_of (found_of blocks id))
  pub writing_metas : (id : ℕ) → AreStamps (writing_metas_of (found_of blocks id))
