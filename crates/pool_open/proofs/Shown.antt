-- The files of a block in a world, as a view of the block shows them.
use Rattle.std.proofs.Common.{◌≡◌, ℕ, Bool, true, false, List, [], Option, Some, None, if◌then◌else◌, refl, ap, sym, ◌∙◌, subst}
use Rattle.std.specs.Prelude.{is_some, ◌||◌, ◌&&◌}
use mathlib.Core.Path.{fun_ext}
use Rattle.volume_layout.specs.Paths.{is_stamp, block_path, meta_path, rbw_block, rbw_meta}
use Rattle.volume_layout.proofs.AsideLemmas.{is_aside-block_path, is_aside-meta_path}
use Rattle.disk_model.specs.Files.{Files}
use Rattle.disk_model.specs.Worlds.{World, has_draft}
use Rattle.disk_model.specs.Told.{Leaves}
use Rattle.map_model.specs.World.{DraftsAside}
use Rattle.map_model.specs.Cells.{Replica}
use Rattle.map_model.specs.Copies.{Spot, BlockFiles, IsCopy, IsAlone, ReadsAs, files_of, block_files}
use Rattle.map_model.specs.Openings.{shown_files, ReadsAlike}
use Rattle.map_model.specs.Sound.{matching, Fits, HasSoundCopies}
use Rattle.map_model.specs.Slots.{files_in, view_of}
use Rattle.map_model.proofs.Bridge.{image_files}
use Rattle.pool_open.specs.Outcome.{ReadsBack}

-- an image of the world: drafts are empty files
plain_image : World → Files
plain_image world vol path = if has_draft world vol path then Some [] else world.settled vol path

leaves_plain : (world : World) → Leaves world (plain_image world)
unfolding plain_image
leaves_plain world = record { drafts = λ vol path there. rw there refl; settled = λ vol path none. rw none refl }

stands_by : (drafted : Bool) (content : Option (List ℕ)) → (drafted || is_some content) ≡ is_some (if drafted then Some [] else content)
stands_by true content = refl
stands_by false content = refl

settled_by : (drafted : Bool) (content : Option (List ℕ)) → drafted ≡ false → content ≡ (if drafted then Some [] else content)
settled_by drafted content none = rw none refl

when : (valid : Bool) (content other : Option (List ℕ)) → content ≡ other → (if valid then content else None) ≡ (if valid then other else None)
when valid content other same = ap (λ c. if valid then c else None) same

pub shown_view : (world : World) (id : ℕ) → DraftsAside world → shown_files world id ≡ files_in (view_of world id)
unfolding files_of plain_image
shown_view world id aside =
    let blocks = fun_ext (λ (spot : Spot). settled_by (has_draft world spot.vol (block_path id)) (world.settled spot.vol (block_path id))
    (aside spot.vol (block_path id) (is_aside-block_path id))) in
    let metas = fun_ext (λ (spot : Spot). fun_ext (λ (stamp : ℕ). when (is_stamp stamp) (world.settled spot.vol (meta_path id stamp)) _
    (settled_by (has_draft world spot.vol (meta_path id stamp)) (world.settled spot.vol (meta_path id stamp))
    (aside spot.vol (meta_path id stamp) (is_aside-meta_path id stamp))))) in
    let written = fun_ext (λ (vol : ℕ). stands_by (has_draft world vol (rbw_block id)) (world.settled vol (rbw_block id))) in
    let written_metas = fun_ext (λ (vol : ℕ). fun_ext (λ (stamp : ℕ). ap (λ b. is_stamp stamp && b) (stands_by (has_draft world vol (rbw_meta id stamp)) (world.settled vol (rbw_meta id stamp))))) in
    let same : shown_files world id ≡ block_files (plain_image world) id = λ i. record { block = blocks i; meta = metas i; writing = written i; writing_meta = written_metas i } in
    same ∙ image_files world (plain_image world) id aside (leaves_plain world)

-- an image of a world reads as the world does
pub world_reads : (world : World) (image : Files) → DraftsAside world → Leaves world image → ReadsAlike (shown_files world) image
world_reads world image aside leaves id valid replica reads =
    subst (λ (files : BlockFiles). ReadsAs files replica) (shown_view world id aside ∙ sym (image_files world image id aside leaves)) reads

-- and is sound where the world is
pub world_reads_back : (world : World) (image : Files) → DraftsAside world → Leaves world image → ReadsBack world image
world_reads_back world image aside leaves = record {
  alike = world_reads world image aside leaves;
  sound = λ matched id valid. subst (λ (files : BlockFiles). HasSoundCopies (Fits matching id) files) (shown_view world id aside ∙ sym (image_files world image id aside leaves)) (matched id valid);
  whole = λ own id valid. subst (λ (files : BlockFiles). (spot : Spot) (replica : Replica) → IsCopy files spot replica → IsAlone files spot)
      (shown_view world id aside ∙ sym (image_files world image id aside leaves)) (own id valid);
}
