-- When a survey says exactly what stands.
use Rattle.std.specs.Prelude.{◌≡◌, ◌↔◌, ℕ, Contains, IsTrue, Option, codes}
use Rattle.volume_layout.specs.Paths.{IsBlockId}
use Rattle.disk_model.specs.Worlds.{World, IsListing}
use Rattle.volume_layout.specs.declared.block_file.BlockFile.TheVariants.{Block, Meta, WritingBlock, WritingMeta}
use Rattle.map_model.specs.Slots.{is_standing, view_of}
use Rattle.pool_survey.specs.declared.found.FoundFiles.{FoundFiles}
use Rattle.pool_survey.specs.declared.surveying.Survey.{Survey}
use Rattle.pool_survey.specs.Found.{found_of, has_block, metas_of, has_writing, writing_metas_of}

-- what was found of a block is what stands of it on the volume: in its own directory of finalised files, and in `current/rbw`
pub record IsExact (world : World) (vol id : ℕ) (found : Option FoundFiles) : Type 0 where
  pub block : has_block found ≡ is_standing (view_of world id vol Block)
  pub metas : (stamp : ℕ) → Contains (metas_of found) stamp ↔ IsTrue (is_standing (view_of world id vol (Meta stamp)))
  pub writing : has_writing found ≡ is_standing (view_of world id vol WritingBlock)
  pub writing_metas : (stamp : ℕ) → Contains (writing_metas_of found) stamp ↔ IsTrue (is_standing (view_of world id vol (WritingMeta stamp)))

-- the survey of a volume in this world
pub record IsSurveyOf (world : World) (vol : ℕ) (survey : Survey) : Type 0 where
  pub blocks : (id : ℕ) → IsBlockId id → IsExact world vol id (found_of survey.blocks id)
  pub temporary : IsListing world vol (codes "tmp") survey.temporary
