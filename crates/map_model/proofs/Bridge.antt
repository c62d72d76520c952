-- A call of the disk on a block's file changes one slot of the block's view, and none of another block's; an image shows the view.
use Rattle.std.proofs.Common.{◌≡◌, ◌≢◌, ℕ, Bool, true, false, cond, eqb, List, Option, Some, None, inl, inr, refl, ap, sym, ◌∙◌, subst}
use Rattle.std.specs.Prelude.{is_some, ◌||◌, ◌&&◌, if◌then◌else◌, IsTrue, IsFalse}
use mathlib.Core.Path.{fun_ext}
use Rattle.std.proofs.lemmas.Bool.{false≢true, true≢false, cases_Bool}
use Rattle.volume_layout.specs.Paths.{IsBlockId, is_stamp, block_path, meta_path, rbw_block, rbw_meta}
use Rattle.volume_layout.proofs.AsideLemmas.{is_aside-block_path, is_aside-meta_path}
use Rattle.volume_layout.proofs.Reading.{PathParts, block as block_name_of, meta as meta_name_of, finalised, writing, temporary, path_parts, path_parts-block, path_parts-meta, path_parts-rbw_block, path_parts-rbw_meta, path_parts-tmp_block, path_parts-tmp_meta, path_id, path_id-block_path, path_id-meta_path, path_id-rbw_block, path_id-rbw_meta, path_id-tmp_block, path_id-tmp_meta, apart_by_id, IsStamp-is_stamp}
use Rattle.disk_model.specs.Files.{Files, is_place}
use Rattle.disk_model.specs.Worlds.{draft_at, World, has_draft, created, removed, settled_at, published, HasDraft, Holds, IsAbsent}
use Rattle.disk_model.specs.Told.{Leaves}
use Rattle.map_model.specs.World.{draft_number, DraftsAside}
use Rattle.map_model.specs.Copies.{files_of, block_files, Spot}
use Rattle.volume_layout.specs.declared.block_file.BlockFile.{BlockFile}
use Rattle.volume_layout.specs.declared.block_file.BlockFile.TheVariants.{Block, Meta, WritingBlock, WritingMeta, TemporaryBlock, TemporaryMeta}
use Rattle.volume_layout.specs.BlockFiles.{path_of, is_file, same_file}
use Rattle.map_model.specs.Slots.{Slot, empty, holds, drafted, is_standing, bytes_in, slot_of, slot_at, view_of, set_slot, create_in, publish_in, remove_in, files_in}
use Rattle.map_model.proofs.Places.{is_place-apart, is_place-path, has_draft-number, no_number, slot_created, slot_removed, slot_settled, drafted_stands, held_holds, bare_absent, absent_empty}
use Rattle.map_model.proofs.SlotLemmas.{same_file-is, same_file-refl}

-- a file's path names its block
pub path_id-file : (id : ℕ) (f : BlockFile) → IsBlockId id → IsTrue (is_file f) → path_id (path_of id f) ≡ id
path_id-file id Block valid is = path_id-block_path id valid
path_id-file id (Meta s) valid is = path_id-meta_path id s valid (IsStamp-is_stamp s is)
path_id-file id WritingBlock valid is = path_id-rbw_block id valid
path_id-file id (WritingMeta s) valid is = path_id-rbw_meta id s valid (IsStamp-is_stamp s is)
path_id-file id TemporaryBlock valid is = path_id-tmp_block id valid
path_id-file id (TemporaryMeta s) valid is = path_id-tmp_meta id s valid (IsStamp-is_stamp s is)

-- the file that a path names: a left inverse of the paths of one block
abbrev file_named : PathParts → BlockFile
file_named (finalised (block_name_of n)) = Block
file_named (finalised (meta_name_of n s)) = Meta s
file_named (writing (block_name_of n)) = WritingBlock
file_named (writing (meta_name_of n s)) = WritingMeta s
file_named (temporary (block_name_of n)) = TemporaryBlock
file_named (temporary (meta_name_of n s)) = TemporaryMeta s

file_at : (id : ℕ) (f : BlockFile) → IsBlockId id → IsTrue (is_file f) → file_named (path_parts (path_of id f)) ≡ f
file_at id Block valid is = ap file_named (path_parts-block id valid)
file_at id (Meta s) valid is = ap file_named (path_parts-meta id s valid (IsStamp-is_stamp s is))
file_at id WritingBlock valid is = ap file_named (path_parts-rbw_block id valid)
file_at id (WritingMeta s) valid is = ap file_named (path_parts-rbw_meta id s valid (IsStamp-is_stamp s is))
file_at id TemporaryBlock valid is = ap file_named (path_parts-tmp_block id valid)
file_at id (TemporaryMeta s) valid is = ap file_named (path_parts-tmp_meta id s valid (IsStamp-is_stamp s is))

-- different files of a block have different paths
pub path_of-injective : (id : ℕ) (f g : BlockFile) → IsBlockId id → IsTrue (is_file f) → IsTrue (is_file g) → path_of id f ≡ path_of id g → f ≡ g
path_of-injective id f g valid is_f is_g same =
    sym (file_at id f valid is_f) ∙ ap (λ p. file_named (path_parts p)) same ∙ file_at id g valid is_g

-- the place of a file, as text and as a file
place_when : (b : Bool) (id vol : ℕ) (f : BlockFile) (v : ℕ) (g : BlockFile) → IsBlockId id → IsTrue (is_file f) → IsTrue (is_file g) → same_file f g ≡ b →
    is_place vol (path_of id f) v (path_of id g) ≡ (b && eqb vol v)
place_when true id vol f v g valid is_f is_g same =
    subst (λ h. is_place vol (path_of id f) v (path_of id h) ≡ eqb vol v) (same_file-is f g same) (is_place-path vol (path_of id f) v)
place_when false id vol f v g valid is_f is_g same =
    is_place-apart vol (path_of id f) v (path_of id g)
    (λ e. false≢true (sym same ∙ subst (λ h. same_file f h ≡ true) (path_of-injective id f g valid is_f is_g e) (same_file-refl f)))

pub place_of_file : (id vol : ℕ) (f : BlockFile) (v : ℕ) (g : BlockFile) → IsBlockId id → IsTrue (is_file f) → IsTrue (is_file g) →
    is_place vol (path_of id f) v (path_of id g) ≡ (same_file f g && eqb vol v)
place_of_file id vol f v g valid is_f is_g = place_when (same_file f g) id vol f v g valid is_f is_g refl

not_same : (f g : BlockFile) → IsTrue (is_file f) → is_file g ≡ false → (b : Bool) → same_file f g ≡ b → b ≡ false
not_same f g is_f not_g true same =
    absurd (true≢false (sym is_f ∙ ap is_file (same_file-is f g same) ∙ not_g))
not_same f g is_f not_g false same = refl

-- a call that changes one place changes one slot of the block's view
slot_when : (b : Bool) (slot old new : Slot) (same : Bool) → (b ≡ true → slot ≡ cond same new old) → (b ≡ false → same ≡ false) →
    (if b then slot else empty) ≡ cond same new (if b then old else empty)
slot_when true slot old new same at_file invalid = at_file refl
slot_when false slot old new same at_file invalid = rw (invalid refl) refl

module _ (id vol : ℕ) (f : BlockFile) (valid : IsBlockId id) (is : IsTrue (is_file f)) where
  view_changed : (world after : World) (slot : Slot) →
      ((v : ℕ) (p : List ℕ) → slot_at after v p ≡ cond (is_place vol (path_of id f) v p) slot (slot_at world v p)) →
      view_of after id ≡ set_slot (view_of world id) vol f slot
  unfolding view_of
  view_changed world after slot changes =
      fun_ext (λ v. fun_ext (λ g.
      slot_when (is_file g) (slot_at after v (path_of id g)) (slot_at world v (path_of id g)) slot (same_file f g && eqb vol v)
      (λ is_g. changes v (path_of id g) ∙ ap (λ b. cond b slot (slot_at world v (path_of id g))) (place_of_file id vol f v g valid is is_g))
      (λ not_g. ap (λ b. b && eqb vol v) (not_same f g is not_g (same_file f g) refl))))

  -- a create
  pub view_created : (world : World) (number : ℕ) →
      view_of (created (draft_at number vol (path_of id f)) world) id ≡ create_in (view_of world id) vol f number
  view_created world number =
      view_changed world (created (draft_at number vol (path_of id f)) world) (drafted number) (slot_created (draft_at number vol (path_of id f)) world)

  -- a removal
  pub view_removed : (world : World) → view_of (removed vol (path_of id f) world) id ≡ remove_in (view_of world id) vol f
  view_removed world = view_changed world (removed vol (path_of id f) world) empty (slot_removed vol (path_of id f) world)

  view_settled : (world : World) (bytes : List ℕ) →
      view_of (settled_at vol (path_of id f) bytes world) id ≡ set_slot (view_of world id) vol f (holds bytes)
  view_settled world bytes = view_changed world (settled_at vol (path_of id f) bytes world) (holds bytes) (slot_settled vol (path_of id f) bytes world)

-- a publish changes two slots: the draft goes, and its bytes are settled at the target
pub view_published : (id vol : ℕ) (from target : BlockFile) → IsBlockId id → IsTrue (is_file from) → IsTrue (is_file target) →
    (world : World) (number : ℕ) (bytes : List ℕ) →
    view_of (published (draft_at number vol (path_of id from)) bytes (path_of id target) world) id ≡ publish_in (view_of world id) vol from target bytes
view_published id vol from target valid is_from is_target world number bytes =
    view_settled id vol target valid is_target (removed vol (path_of id from) world) bytes
    ∙ ap (λ view. set_slot view vol target (holds bytes)) (view_removed id vol from valid is_from world)

-- ---- the views of other blocks

away : (b : Bool) (new old : Slot) → b ≡ false → cond b new old ≡ old
away b new old is = rw is refl

same_when : (b : Bool) (slot old : Slot) → (b ≡ true → slot ≡ old) → (if b then slot else empty) ≡ (if b then old else empty)
same_when true slot old same = same refl
same_when false slot old same = refl

module _ (id other vol : ℕ) (f : BlockFile) (valid : IsBlockId id) (other_valid : IsBlockId other) (differ : id ≢ other) (is : IsTrue (is_file f)) where
  view_kept : (world after : World) (slot : Slot) →
      ((v : ℕ) (p : List ℕ) → slot_at after v p ≡ cond (is_place vol (path_of id f) v p) slot (slot_at world v p)) →
      view_of after other ≡ view_of world other
  unfolding view_of
  view_kept world after slot changes =
      fun_ext (λ v. fun_ext (λ g.
      same_when (is_file g) (slot_at after v (path_of other g)) (slot_at world v (path_of other g))
      (λ is_g. changes v (path_of other g)
      ∙ away (is_place vol (path_of id f) v (path_of other g)) slot (slot_at world v (path_of other g))
      (is_place-apart vol (path_of id f) v (path_of other g)
      (apart_by_id (path_of id f) (path_of other g) id other (path_id-file id f valid is) (path_id-file other g other_valid is_g) differ)))))

  -- a create leaves the view of every other block
  pub other_created : (world : World) (number : ℕ) → view_of (created (draft_at number vol (path_of id f)) world) other ≡ view_of world other
  other_created world number =
      view_kept world (created (draft_at number vol (path_of id f)) world) (drafted number) (slot_created (draft_at number vol (path_of id f)) world)

  -- and so does a removal
  pub other_removed : (world : World) → view_of (removed vol (path_of id f) world) other ≡ view_of world other
  other_removed world = view_kept world (removed vol (path_of id f) world) empty (slot_removed vol (path_of id f) world)

  other_settled : (world : World) (bytes : List ℕ) → view_of (settled_at vol (path_of id f) bytes world) other ≡ view_of world other
  other_settled world bytes = view_kept world (settled_at vol (path_of id f) bytes world) (holds bytes) (slot_settled vol (path_of id f) bytes world)

-- and a publish
pub other_published : (id other vol : ℕ) (from target : BlockFile) → IsBlockId id → IsBlockId other → id ≢ other →
    IsTrue (is_file from) → IsTrue (is_file target) → (world : World) (number : ℕ) (bytes : List ℕ) →
    view_of (published (draft_at number vol (path_of id from)) bytes (path_of id target) world) other ≡ view_of world other
other_published id other vol from target valid other_valid differ is_from is_target world number bytes =
    other_settled id other vol target valid other_valid differ is_target (removed vol (path_of id from) world) bytes
    ∙ other_removed id other vol from valid other_valid differ is_from world

-- ---- from a view to the disk's own words

slot_at_file : (b : Bool) (slot : Slot) → b ≡ true → (if b then slot else empty) ≡ slot
slot_at_file b slot is = rw is refl

module _ (world : World) (id vol : ℕ) (f : BlockFile) (is : IsTrue (is_file f)) where
  -- the slot of a file is what stands at its place
  pub view_slot : view_of world id vol f ≡ slot_at world vol (path_of id f)
  unfolding view_of
  view_slot = slot_at_file (is_file f) (slot_at world vol (path_of id f)) is

  -- a draft in the view stands on the disk, so that it may be published
  pub view_drafted : (number : ℕ) → view_of world id vol f ≡ drafted number → HasDraft world (draft_at number vol (path_of id f))
  view_drafted number same = drafted_stands world vol (path_of id f) number (sym view_slot ∙ same)

  -- bytes in the view are settled on the disk, and no draft stands there
  pub view_holds : (bytes : List ℕ) → view_of world id vol f ≡ holds bytes → Holds vol (path_of id f) (Some bytes) world
  view_holds bytes same = held_holds world vol (path_of id f) bytes (sym view_slot ∙ same)

  -- where nothing stands in the view, nothing stands on the disk
  pub view_bare : IsFalse (is_standing (view_of world id vol f)) → IsAbsent world vol (path_of id f)
  view_bare bare = bare_absent world vol (path_of id f) (ap is_standing (sym view_slot) ∙ bare)

  -- so that a draft may be made there
  pub view_free : IsFalse (is_standing (view_of world id vol f)) → IsFalse (has_draft world vol (path_of id f))
  view_free bare = (view_bare bare).no_draft

  -- and the other way round
  pub view_absent : IsAbsent world vol (path_of id f) → view_of world id vol f ≡ empty
  view_absent absent = view_slot ∙ absent_empty world vol (path_of id f) absent

-- ---- images

finalised_bytes : (d : Option ℕ) (c : Option (List ℕ)) → d ≡ None → c ≡ bytes_in (slot_of d c)
finalised_bytes None None none = refl
finalised_bytes None (Some bytes) none = refl
finalised_bytes (Some n) c none = (let bad : Some n ≡ None = none in absurd cc)

bytes_when : (b : Bool) (shown : Option (List ℕ)) (slot : Slot) → shown ≡ bytes_in slot → (if b then shown else None) ≡ bytes_in (if b then slot else empty)
bytes_when true shown slot same = same
bytes_when false shown slot same = refl

standing_slot : (d : Option ℕ) (c : Option (List ℕ)) → is_standing (slot_of d c) ≡ (is_some d || is_some c)
standing_slot None None = refl
standing_slot None (Some bytes) = refl
standing_slot (Some n) c = refl

and_standing : (b shown : Bool) (slot : Slot) → shown ≡ is_standing slot → (b && shown) ≡ is_standing (if b then slot else empty)
and_standing true shown slot same = same
and_standing false shown slot same = refl

module _ (world : World) (image : Files) (leaves : Leaves world image) where
  image_settled : (vol : ℕ) (path : List ℕ) → IsFalse (has_draft world vol path) → image vol path ≡ bytes_in (slot_at world vol path)
  image_settled vol path none =
      leaves.settled vol path none ∙ finalised_bytes (draft_number world.drafts vol path) (world.settled vol path) (no_number world vol path none)

  image_stands : (vol : ℕ) (path : List ℕ) → is_some (image vol path) ≡ is_standing (slot_at world vol path)
  image_stands vol path =
      elim (cases_Bool (has_draft world vol path)) [
        | inl there ↦
            leaves.drafts vol path there ∙ sym (ap (λ b. b || is_some (world.settled vol path)) (sym (has_draft-number world.drafts vol path) ∙ there))
        | inr none ↦
            ap is_some (leaves.settled vol path none)
            ∙ sym (ap (λ b. b || is_some (world.settled vol path)) (sym (has_draft-number world.drafts vol path) ∙ none))
      ]
      ∙ sym (standing_slot (draft_number world.drafts vol path) (world.settled vol path))

pub image_files : (world : World) (image : Files) (id : ℕ) → DraftsAside world → Leaves world image → block_files image id ≡ files_in (view_of world id)
unfolding files_of view_of
image_files world image id aside leaves =
    let blocks = fun_ext (λ (spot : Spot). image_settled world image leaves spot.vol (block_path id) (aside spot.vol (block_path id) (is_aside-block_path id))) in
    let metas = fun_ext (λ (spot : Spot). fun_ext (λ (stamp : ℕ). bytes_when (is_stamp stamp) (image spot.vol (meta_path id stamp))
    (slot_at world spot.vol (meta_path id stamp))
    (image_settled world image leaves spot.vol (meta_path id stamp) (aside spot.vol (meta_path id stamp) (is_aside-meta_path id stamp))))) in
    let written = fun_ext (λ (vol : ℕ). image_stands world image leaves vol (rbw_block id)) in
    let written_metas = fun_ext (λ (vol : ℕ). fun_ext (λ (stamp : ℕ). and_standing (is_stamp stamp) (is_some (image vol (rbw_meta id stamp)))
    (slot_at world vol (rbw_meta id stamp))
    (image_stands world image leaves vol (rbw_meta id stamp)))) in
    λ i. record { block = blocks i; meta = metas i; writing = written i; writing_meta = written_metas i }
