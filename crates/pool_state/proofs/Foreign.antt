-- Each call on a file of a block leaves alone what isn't a block's.
use Rattle.std.proofs.Common.{◌≡◌, ℕ, List, Option, ◌∙◌, ap}
use Rattle.std.specs.Prelude.{IsTrue}
use Rattle.disk_model.specs.Files.{Files}
use Rattle.disk_model.specs.Worlds.{World, DraftPlace, draft_at, created, removed, published}
use Rattle.disk_model.specs.Told.{CanLeave, StandsBeforeOrAfter}
use Rattle.disk_model.specs.Moments.{Elapses}
use Rattle.disk_model.specs.Alone.{LeavesAlone}
use Rattle.disk_model.proofs.Alone.{alike_same, alike_removed, alike_created, alike_published, alone_same, alone_then, alone_call}
use Rattle.volume_layout.specs.Paths.{IsBlockId}
use Rattle.volume_layout.specs.declared.block_file.BlockFile.{BlockFile}
use Rattle.volume_layout.specs.BlockFiles.{path_of, is_file}
use Rattle.volume_layout.specs.Foreign.{IsForeign}

-- no call
pub foreign_same : (told : Option (List World)) (past : ℕ → Files → Type 0) → LeavesAlone IsForeign told told past past
foreign_same told past = alone_same IsForeign told past

-- two runs of calls
pub foreign_then : {first middle last : Option (List World)} {past between since : ℕ → Files → Type 0}
    → LeavesAlone IsForeign first middle past between → LeavesAlone IsForeign middle last between since → LeavesAlone IsForeign first last past since
foreign_then one two = alone_then IsForeign one two

module _ {old new : Option (List World)} {before now : ℕ} {past since : ℕ → Files → Type 0} where
  -- a call that only looks
  pub foreign_looked : StandsBeforeOrAfter (λ w. w) old new → Elapses before now past since (CanLeave new) → LeavesAlone IsForeign old new past since
  foreign_looked call time = alone_call IsForeign (λ w. w) (λ world. alike_same IsForeign world) call time

  -- one that removes a file of a block
  pub foreign_removed : (id vol : ℕ) (f : BlockFile) → IsBlockId id → IsTrue (is_file f) → (path : List ℕ) → path ≡ path_of id f
      → StandsBeforeOrAfter (removed vol path) old new → Elapses before now past since (CanLeave new) → LeavesAlone IsForeign old new past since
  foreign_removed id vol f valid is path same call time = alone_call IsForeign (removed vol path)
      (λ world. alike_removed IsForeign vol path world (λ p foreign here. foreign.no_file id f valid is (here ∙ same))) call time

  -- one that creates it
  pub foreign_created : (id vol number : ℕ) (f : BlockFile) → IsBlockId id → IsTrue (is_file f) → (path : List ℕ) → path ≡ path_of id f
      → StandsBeforeOrAfter (created (draft_at number vol path)) old new → Elapses before now past since (CanLeave new) → LeavesAlone IsForeign old new past since
  foreign_created id vol number f valid is path same call time = alone_call IsForeign (created (draft_at number vol path))
      (λ world. alike_created IsForeign (draft_at number vol path) world (λ p foreign here. foreign.no_file id f valid is (here ∙ same))) call time

  -- one that publishes it
  pub foreign_published : (id : ℕ) (from target : BlockFile) → IsBlockId id → IsTrue (is_file from) → IsTrue (is_file target)
      → (draft : DraftPlace) (number vol : ℕ) → draft ≡ draft_at number vol (path_of id from) → (bytes path : List ℕ) → path ≡ path_of id target
      → StandsBeforeOrAfter (published draft bytes path) old new → Elapses before now past since (CanLeave new) → LeavesAlone IsForeign old new past since
  foreign_published id from target valid is_from is_target draft number vol at bytes path same call time = alone_call IsForeign (published draft bytes path)
      (λ world. alike_published IsForeign draft bytes path world
      (λ p foreign here. foreign.no_file id from valid is_from (here ∙ ap (λ (d : DraftPlace). d.path) at))
      (λ p foreign here. foreign.no_file id target valid is_target (here ∙ same))) call time
