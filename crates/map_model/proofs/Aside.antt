-- Drafts stand aside, under `tmp` or `current/rbw`, and each call of the disk keeps it so.
use Rattle.std.proofs.Common.{◌≡◌, ◌≢◌, ℕ, Bool, true, false, not, inl, inr, List, [], ◌∷◌, filter, refl, ap, sym, ◌∙◌}
use Rattle.std.specs.Prelude.{IsTrue, IsFalse, is_some}
use Rattle.std.specs.List.{list_any}
use Rattle.std.proofs.lemmas.Bool.{true≢false, false≢true, or_parts, or_from, cases_Bool}
use Rattle.volume_layout.specs.Aside.{is_aside}
use Rattle.volume_layout.proofs.AsideLemmas.{is_aside-block_path, is_aside-meta_path, is_aside-rbw_block, is_aside-rbw_meta, is_aside-tmp_block, is_aside-tmp_meta}
use Rattle.disk_model.specs.Files.{is_place}
use Rattle.disk_model.specs.Worlds.{DraftPlace, draft_at, World, stands_at, has_draft, created, removed, settled_at, published}
use Rattle.map_model.specs.World.{DraftsAside}
use Rattle.volume_layout.specs.declared.block_file.BlockFile.{BlockFile}
use Rattle.volume_layout.specs.declared.block_file.BlockFile.TheVariants.{Block, Meta, WritingBlock, WritingMeta, TemporaryBlock, TemporaryMeta}
use Rattle.volume_layout.specs.BlockFiles.{path_of, is_file, is_aside_file}
use Rattle.map_model.specs.Slots.{drafted, slot_at, view_of}
use Rattle.map_model.proofs.Places.{is_place-apart, drafted_number, has_draft-number}
use Rattle.map_model.proofs.Bridge.{view_slot}

-- which files of a block stand aside
pub is_aside-path_of : (id : ℕ) (f : BlockFile) → is_aside (path_of id f) ≡ is_aside_file f
is_aside-path_of id Block = is_aside-block_path id
is_aside-path_of id (Meta s) = is_aside-meta_path id s
is_aside-path_of id WritingBlock = is_aside-rbw_block id
is_aside-path_of id (WritingMeta s) = is_aside-rbw_meta id s
is_aside-path_of id TemporaryBlock = is_aside-tmp_block id
is_aside-path_of id (TemporaryMeta s) = is_aside-tmp_meta id s

-- what is left of a list passes no test that nothing passed
fewer : {X : Type 0} (keep test : X → Bool) (xs : List X) → list_any test xs ≡ false → list_any test (filter keep xs) ≡ false
fewer keep test [] none = refl
fewer keep test (x ∷ xs) none =
    let parts = or_parts (test x) (list_any test xs) none in
    elim (cases_Bool (keep x)) [
      | inl kept ↦ rw kept (or_from (test x) (list_any test (filter keep xs)) parts.0 (fewer keep test xs parts.1))
      | inr gone ↦ rw gone (fewer keep test xs parts.1)
    ]

-- a call that makes no draft keeps the drafts aside
pub aside_removed : (vol : ℕ) (path : List ℕ) (world : World) → DraftsAside world → DraftsAside (removed vol path world)
aside_removed vol path world aside v p apart = fewer (λ d. not (stands_at vol path d)) (stands_at v p) world.drafts (aside v p apart)

pub aside_settled : (vol : ℕ) (path bytes : List ℕ) (world : World) → DraftsAside world → DraftsAside (settled_at vol path bytes world)
aside_settled vol path bytes world aside v p apart = fewer (λ d. not (stands_at vol path d)) (stands_at v p) world.drafts (aside v p apart)

pub aside_published : (draft : DraftPlace) (bytes target : List ℕ) (world : World) → DraftsAside world → DraftsAside (published draft bytes target world)
aside_published draft bytes target world aside =
    aside_settled draft.vol target bytes (removed draft.vol draft.path world) (aside_removed draft.vol draft.path world aside)

-- and so does a create aside
pub aside_created : (draft : DraftPlace) (world : World) → is_aside draft.path ≡ true → DraftsAside world → DraftsAside (created draft world)
aside_created draft world there aside v p apart =
    or_from (is_place draft.vol draft.path v p) (has_draft world v p)
    (is_place-apart draft.vol draft.path v p (λ same. true≢false (sym there ∙ ap is_aside same ∙ apart)))
    (aside v p apart)

-- as is each of a writer's files and of a move's
pub aside_created_file : (id number vol : ℕ) (f : BlockFile) (world : World) → is_aside_file f ≡ true → DraftsAside world →
    DraftsAside (created (draft_at number vol (path_of id f)) world)
aside_created_file id number vol f world there aside =
    aside_created (draft_at number vol (path_of id f)) world (is_aside-path_of id f ∙ there) aside

-- no draft stands at a finalised file
pub aside_no_draft : (id vol : ℕ) (f : BlockFile) (world : World) → is_aside_file f ≡ false → DraftsAside world → IsFalse (has_draft world vol (path_of id f))
aside_no_draft id vol f world apart aside = aside vol (path_of id f) (is_aside-path_of id f ∙ apart)

-- so its slot isn't a draft's
pub aside_not_drafted : (id vol : ℕ) (f : BlockFile) (world : World) (number : ℕ) → IsTrue (is_file f) → is_aside_file f ≡ false → DraftsAside world →
    view_of world id vol f ≢ drafted number
aside_not_drafted id vol f world number is apart aside there =
    let slot : slot_at world vol (path_of id f) ≡ drafted number = sym (view_slot world id vol f is) ∙ there in
    false≢true (sym (aside_no_draft id vol f world apart aside)
    ∙ has_draft-number world.drafts vol (path_of id f)
    ∙ ap is_some (drafted_number world vol (path_of id f) number slot))
