-- The whole survey.
use Rattle.std.proofs.Common.{◌≡◌, ℕ, Bool, true, false, List, [], ◌∷◌, inl, inr, Option, None, Some, Contains, refl, ap, sym, ◌∙◌, subst}
use Rattle.std.specs.Prelude.{◌↔◌, IsTrue, IsFalse, IsSome, nat_eq, codes}
use Rattle.std.specs.List.{list_any}
use Rattle.std.specs.BTreeMap.{BTreeMap}
use Rattle.std.proofs.lemmas.Bool.{false≢true, cases_Bool}
use Rattle.std.proofs.lemmas.Cmp.{nat_eq_equiv}
use Rattle.std.proofs.lemmas.Map.Views.{Contains-from_any, list_any-from_Contains, exact_unsigned_eq}
use Rattle.std.proofs.lemmas.List.Elements.{All-contains}
use Rattle.volume_layout.specs.Paths.{IsBlockId, IsStamp, is_stamp}
use Rattle.volume_layout.proofs.Reading.{is_stamp-IsStamp}
use Rattle.disk_model.specs.Worlds.{World, IsListing}
use Rattle.disk_model.specs.Told.{IsWorldOf, InEachWorld, PicksOne}
use Rattle.disk_model.proofs.Laws.{has_one}
use Rattle.volume_layout.specs.declared.block_file.BlockFile.{BlockFile}
use Rattle.volume_layout.specs.declared.block_file.BlockFile.TheVariants.{Block, Meta, WritingBlock, WritingMeta, TemporaryBlock, TemporaryMeta}
use Rattle.volume_layout.specs.BlockFiles.{is_file}
use Rattle.map_model.specs.Slots.{is_standing, view_of}
use Rattle.pool_survey.specs.declared.found.FoundFiles.{FoundFiles}
use Rattle.pool_survey.specs.declared.surveying.Survey.{Survey}
use Rattle.pool_survey.specs.declared.naming.Directory.TheVariants.{Writing}
use Rattle.pool_survey.specs.Found.{AreStamps, AreBlocks, found_of, metas_of, writing_metas_of}
use Rattle.pool_survey.specs.Exact.{IsExact, IsSurveyOf}
use Rattle.pool_survey.specs.Directories.{is_finalised, is_writing, is_in}
use Rattle.pool_survey.specs.Regions.{Region, NoneFound, AreExact, AreSameOutside, is_found, in_finalised}
use Rattle.pool_survey.proofs.Adding.{none_found, none_left, no_stamps}
use Rattle.pool_survey.proofs.Regions.{still_none}

-- ---- before the first name

module _ (blocks : BTreeMap ℕ FoundFiles) (empty : blocks.entries ≡ []) where
  nothing : (id : ℕ) → found_of blocks id ≡ None
  nothing = none_left blocks empty

  pub no_blocks : AreBlocks blocks
  no_blocks = record {
    ids = λ id files is. absurd (let bad : None ≡ Some files = sym (nothing id) ∙ is in cc);
    metas = λ id. subst (λ found. AreStamps (metas_of found)) (sym (nothing id)) no_stamps;
    writing_metas = λ id. subst (λ found. AreStamps (writing_metas_of found)) (sym (nothing id)) no_stamps;
  }

  pub none_at_all : (region : Region) → NoneFound region blocks
  none_at_all region id valid file is in' = ap (λ found. is_found found file) (nothing id) ∙ none_found file

-- a finalised file isn't being written
other_kind : (file : BlockFile) → is_finalised file ≡ true → is_writing file ≡ false
other_kind Block is = refl
other_kind (Meta stamp) is = refl
other_kind WritingBlock is = absurd (false≢true is)
other_kind (WritingMeta stamp) is = absurd (false≢true is)
other_kind TemporaryBlock is = absurd (false≢true is)
other_kind (TemporaryMeta stamp) is = absurd (false≢true is)

not_finalised : (file : BlockFile) → is_writing file ≡ true → is_finalised file ≡ false
not_finalised Block is = absurd (false≢true is)
not_finalised (Meta stamp) is = absurd (false≢true is)
not_finalised WritingBlock is = refl
not_finalised (WritingMeta stamp) is = refl
not_finalised TemporaryBlock is = absurd (false≢true is)
not_finalised (TemporaryMeta stamp) is = absurd (false≢true is)

abbrev everywhere : Region
everywhere id file = true

-- after `current/rbw` no finalised file was found
pub none_finalised : (first now : BTreeMap ℕ FoundFiles) → first.entries ≡ [] → AreSameOutside (is_in Writing) first now → NoneFound in_finalised now
none_finalised first now empty same =
    still_none (is_in Writing) in_finalised everywhere first now (λ id file is. (other_kind file is, refl)) (none_at_all first empty everywhere) same

-- ---- what was found, and what stands

no_file : (world : World) (id vol : ℕ) (f : BlockFile) → is_file f ≡ false → IsFalse (is_standing (view_of world id vol f))
unfolding view_of
no_file world id vol f isnt = rw isnt refl

-- the stamps that were found are those of the metas that stand
stamps_exact : (world : World) (vol id stamp : ℕ) (stamps : List ℕ) (standing : Bool) → AreStamps stamps →
    (is_stamp stamp ≡ false → standing ≡ false) → (is_stamp stamp ≡ true → list_any (nat_eq stamp) stamps ≡ standing) →
    Contains stamps stamp ↔ IsTrue standing
stamps_exact world vol id stamp stamps standing are none exact = (
  (λ has.
      let valid : IsStamp stamp = All-contains IsStamp stamps stamp are.in_range has in
      sym (exact (is_stamp-IsStamp stamp valid)) ∙ list_any-from_Contains nat_eq_equiv stamp stamps has),
  (λ there. elim (cases_Bool (is_stamp stamp)) [
    | inl is ↦ Contains-from_any exact_unsigned_eq stamp stamps (exact is ∙ there)
    | inr isnt ↦ absurd (false≢true (sym (none isnt) ∙ there))
  ]),
)

pub is_exact : (world : World) (vol id : ℕ) (blocks : BTreeMap ℕ FoundFiles) → IsBlockId id → AreBlocks blocks →
    AreExact (is_in Writing) world vol blocks → AreExact in_finalised world vol blocks → IsExact world vol id (found_of blocks id)
is_exact world vol id blocks valid are written finalised = record {
  block = finalised id valid Block refl refl;
  metas = λ stamp. stamps_exact world vol id stamp (metas_of (found_of blocks id)) (is_standing (view_of world id vol (Meta stamp))) (are.metas id)
      (no_file world id vol (Meta stamp)) (λ is. finalised id valid (Meta stamp) is refl);
  writing = written id valid WritingBlock refl refl;
  writing_metas = λ stamp. stamps_exact world vol id stamp (writing_metas_of (found_of blocks id)) (is_standing (view_of world id vol (WritingMeta stamp)))
      (are.writing_metas id) (no_file world id vol (WritingMeta stamp)) (λ is. written id valid (WritingMeta stamp) is refl);
}

-- what was found in `current/rbw` stays
pub still_written : (world : World) (vol : ℕ) (before now : BTreeMap ℕ FoundFiles) → AreExact (is_in Writing) world vol before →
    AreSameOutside in_finalised before now → AreExact (is_in Writing) world vol now
still_written world vol before now exact same id valid file is in' =
    same id valid file is (not_finalised file in') ∙ exact id valid file is in'

-- the call that listed `current/rbw` picked the world that the survey is exact for
pub picks : {first told last : Option (List World)} {vol : ℕ} {names : List (List ℕ)} (survey : Survey) (before : BTreeMap ℕ FoundFiles) →
    PicksOne (λ world. IsListing world vol (codes "current/rbw") names) (λ world. world) first told → last ≡ told →
    ((world : World) → IsListing world vol (codes "current/rbw") names → AreExact (is_in Writing) world vol before) →
    AreBlocks survey.blocks → AreSameOutside in_finalised before survey.blocks → InEachWorld last (λ world. AreExact in_finalised world vol survey.blocks) →
    InEachWorld last (λ world. IsListing world vol (codes "tmp") survey.temporary) →
    PicksOne (λ world. IsSurveyOf world vol survey) (λ world. world) first last
picks {first} {told} {last} {vol} {names} survey before call same written are others finalised temporary = record {
  honest = subst (λ t. IsSome first ↔ IsSome t) (sym same) call.honest;
  picked = λ worlds is.
      let one = call.picked worlds is in
      let told_is : last ≡ Some (one.0 ∷ []) = same ∙ one.3 in
      let is_world : IsWorldOf last one.0 = (one.0 ∷ [], told_is, has_one one.0) in
      let rbw = still_written one.0 vol before survey.blocks (written one.0 one.2) others in (
        one.0,
        one.1,
        record {
          blocks = λ id valid. is_exact one.0 vol id survey.blocks valid are rbw (finalised one.0 is_world);
          temporary = temporary one.0 is_world;
        },
        told_is,
      );
}
