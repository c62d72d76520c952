-- The proofs of the laws.
use Rattle.std.proofs.Common.{◌≡◌, ◌≢◌, inl, inr, ℕ, List, sym, subst}
use Rattle.volume_layout.specs.Paths.{IsBlockId}
use Rattle.disk_model.specs.Worlds.{World}
use Rattle.map_model.specs.Cells.{Replica}
use Rattle.map_model.specs.Copies.{BlockFiles}
use Rattle.map_model.specs.Allows.{AllowsFiles}
use Rattle.map_model.specs.Slots.{View, view_of}
use Rattle.map_model.specs.Stands.{BlockStands}
use Rattle.map_model.specs.Laws.{BlockAllows, StepsAreBetween, StandsAllows, CallsFilesOf, a_create, a_publish, a_remove, OtherBlocksStand}
use Rattle.map_model.proofs.KeyLaw.{files_allow}
use Rattle.map_model.proofs.StepProofs.{steps_allow_nothing_else}
use Rattle.map_model.proofs.Bridge.{image_files, other_created, other_published, other_removed}

pub block_allows : (M : List ℕ → Replica → Type 0) → BlockAllows M
block_allows M view books cell stands = files_allow M view books.entry books.leftovers books.ticket cell stands

pub steps_are_between : StepsAreBetween
steps_are_between room cell command reply after files step allows =
    elim (steps_allow_nothing_else room cell command reply after allows.read step allows.allowed) [
      | inl before ↦ inl (record { read = allows.read; reads = allows.reads; allowed = before })
      | inr next ↦ inr (next.0, next.1, record { read = allows.read; reads = allows.reads; allowed = next.2 })
    ]

pub stands_allows : (M : ℕ → List ℕ → Replica → Type 0) → StandsAllows M
stands_allows M told books cells image stands leaves id valid =
    let world : World = leaves.0 in
    let here = stands world leaves.1 in
    let Q : BlockFiles → Type 0 = λ files. AllowsFiles (cells id) files in
    subst Q (sym (image_files world image id here.aside leaves.2))
    (files_allow (M id) (view_of world id) (books id).entry (books id).leftovers (books id).ticket (cells id) (here.blocks id valid))

-- the view of another block stays
pub same_view : (id other : ℕ) (before after : World) → IsBlockId id → IsBlockId other → id ≢ other → CallsFilesOf id before after →
    view_of after other ≡ view_of before other
same_view id other before after valid other_valid differ (a_create number vol f is) =
    other_created id other vol f valid other_valid differ is before number
same_view id other before after valid other_valid differ (a_publish number vol from target bytes is_from is_target) =
    other_published id other vol from target valid other_valid differ is_from is_target before number bytes
same_view id other before after valid other_valid differ (a_remove vol f is) =
    other_removed id other vol f valid other_valid differ is before

pub other_blocks_stand : (M : List ℕ → Replica → Type 0) → OtherBlocksStand M
other_blocks_stand M before after id other books cell valid other_valid differ call stands =
    let P : View → Type 0 = λ view. BlockStands M view books cell in
    subst P (sym (same_view id other before after valid other_valid differ call)) stands
