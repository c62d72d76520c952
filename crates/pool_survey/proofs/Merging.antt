-- What was found on one more volume, block by block.
use Rattle.std.proofs.Common.{◌≡◌, ◌≢◌, ℕ, List, [], ◌∷◌, inl, inr, None, Some, refl, ap, sym, ◌∙◌, subst, arith}
use Rattle.std.specs.Prelude.{◌==◌, ◌<◌, if◌then◌else◌, length}
use Rattle.std.specs.Global.{Vec}
use Rattle.std.specs.Ordering.{nat_cmp}
use Rattle.std.specs.BTreeMap.{BTreeMap, Updates, is_at}
use Rattle.std.proofs.lemmas.Bool.{cases_eq, eq-eqb, ne_eqb, false_from_ne_true}
use Rattle.std.proofs.lemmas.Map.Lookups.{exact_unsigned}
use Rattle.std.proofs.lemmas.Map.Views.{tells_apart}
use Rattle.pool_survey.specs.declared.found.FoundFiles.{FoundFiles}
use Rattle.pool_survey.specs.declared.places.FoundOn.{FoundOn}
use Rattle.pool_survey.specs.Found.{AreStamps, AreBlocks, found_of, metas_of, writing_metas_of}
use Rattle.pool_survey.specs.Places.{places_of, with_found}
use Rattle.pool_survey.proofs.Adding.{no_stamps}

-- a map that has no first entry has none
pub no_entries : (found : BTreeMap ℕ FoundFiles) → (0 < length found.entries → ⊥) → found.entries ≡ []
no_entries found none = empty found.entries none
  where
    empty : (entries : List (ℕ × FoundFiles)) → (0 < length entries → ⊥) → entries ≡ []
    empty [] none = refl
    empty (entry ∷ entries) none = absurd (none (omega arith))

module _ (before now : BTreeMap ℕ FoundFiles) (id : ℕ) (taken : Updates nat_cmp before now id None) where
  -- nothing is left of the block that was taken out
  gone : (other : ℕ) → other ≡ id → found_of now other ≡ None
  gone other same = ap (found_of now) same ∙ taken.1

  -- what was found of the others is left
  left : (other : ℕ) → other ≢ id → found_of now other ≡ found_of before other
  left other apart = taken.2 other (false_from_ne_true (is_at (nat_cmp id) other) (λ at. apart (sym (tells_apart exact_unsigned id other at))))

  pub blocks_left : AreBlocks before → AreBlocks now
  blocks_left are = record {
    ids = λ other x is. elim (cases_eq other id) [
      | inl same ↦ absurd (let bad : None ≡ Some x = sym (gone other same) ∙ is in cc)
      | inr apart ↦ are.ids other x (sym (left other apart) ∙ is)
    ];
    metas = λ other. elim (cases_eq other id) [
      | inl same ↦ subst (λ f. AreStamps (metas_of f)) (sym (gone other same)) no_stamps
      | inr apart ↦ subst (λ f. AreStamps (metas_of f)) (sym (left other apart)) (are.metas other)
    ];
    writing_metas = λ other. elim (cases_eq other id) [
      | inl same ↦ subst (λ f. AreStamps (writing_metas_of f)) (sym (gone other same)) no_stamps
      | inr apart ↦ subst (λ f. AreStamps (writing_metas_of f)) (sym (left other apart)) (are.writing_metas other)
    ];
  }

  -- what was taken out stands behind the block's places: what there will be is the same
  pub still_merged : (vol : ℕ) (files : FoundFiles) (old new : BTreeMap ℕ (Vec FoundOn)) → found_of before id ≡ Some files →
      ((other : ℕ) → places_of new other ≡ with_found vol (places_of old other) (if other == id then Some files else None)) →
      (other : ℕ) → with_found vol (places_of new other) (found_of now other) ≡ with_found vol (places_of old other) (found_of before other)
  still_merged vol files old new value added other = elim (cases_eq other id) [
    | inl same ↦
        ap (with_found vol (places_of new other)) (gone other same) ∙ added other
        ∙ ap (λ b. with_found vol (places_of old other) (if b then Some files else None)) (eq-eqb other id same)
        ∙ ap (with_found vol (places_of old other)) (sym value ∙ ap (found_of before) (sym same))
    | inr apart ↦
        ap (λ places. with_found vol places (found_of now other)) (added other
        ∙ ap (λ b. with_found vol (places_of old other) (if b then Some files else None)) (ne_eqb other id apart))
        ∙ ap (with_found vol (places_of old other)) (left other apart)
  ]
