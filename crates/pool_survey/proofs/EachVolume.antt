-- One more volume of a pool that was surveyed.
use Rattle.std.proofs.Common.{◌≡◌, ◌≢◌, ◌≤◌, ◌<◌, ◌+◌, ◌-◌, ℕ, List, [], ◌∷◌, ◌++◌, length, get_or, inl, inr, ◌⊎◌, Option, None, Some, refl, sym, ◌∙◌, subst, ap, arith}
use Rattle.std.specs.Prelude.{◌==◌, if◌then◌else◌, All, codes}
use Rattle.std.proofs.lemmas.Bool.{cases_eq, eq-eqb, ne_eqb}
use Rattle.std.proofs.lemmas.List.{get_or_push, get_or_append_left, length-append}
use Rattle.std.proofs.lemmas.List.Elements.{All-push, All-tail}
use Rattle.std.proofs.lemmas.List.Quantifiers.{all_pairs_push}
use Rattle.volume_layout.specs.Paths.{IsBlockId}
use Rattle.disk_model.specs.declared.disks.PoolDisks.{Ghosts}
use Rattle.disk_model.specs.Worlds.{World, IsListing}
use Rattle.disk_model.specs.Told.{InEachWorld, PicksOne}
use Rattle.disk_model.specs.Looking.{TellOne}
use Rattle.pool_survey.specs.declared.found.FoundFiles.{FoundFiles}
use Rattle.pool_survey.specs.declared.places.FoundOn.{FoundOn}
use Rattle.pool_survey.specs.declared.surveying.Survey.{Survey}
use Rattle.pool_survey.specs.declared.surveying_pool.PoolSurvey.{PoolSurvey}
use Rattle.pool_survey.specs.Found.{AreBlocks, found_of}
use Rattle.pool_survey.specs.Regions.{AreFiles}
use Rattle.pool_survey.specs.Exact.{IsExact, IsSurveyOf}
use Rattle.pool_survey.specs.Places.{HaveBlockIds, ArePlaces, ArePoolBlocks, IsPoolSurveyOf, found_on, places_of, with_found}
use Rattle.pool_survey.proofs.Adding.{files_at}
use Rattle.pool_survey.proofs.Told.{tell_one, answered, remains}
use Rattle.pool_survey.proofs.LookingOn.{Looks, looks_then, picked_one}

abbrev is_up_to : ℕ → FoundOn → Type 0
is_up_to i on = (1 ≤ on.vol) × (on.vol ≤ i)

abbrev volumes_to : ℕ → List FoundOn → Type 0
volumes_to i places = All (is_up_to i) places

abbrev placed : ℕ → FoundFiles → FoundOn
placed vol files = record { vol = vol; files = files }

-- ---- the places of one block

-- what was found on other volumes stays
found_behind : (places : List FoundOn) (last vol : ℕ) (files : FoundFiles) → last ≢ vol → found_on (places ++ placed last files ∷ []) vol ≡ found_on places vol
found_behind [] last vol files apart = rw (ne_eqb last vol apart) refl
found_behind (on ∷ places) last vol files apart =
    ap (λ found. if on.vol == vol then Some on.files else found) (found_behind places last vol files apart)

found_elsewhere : (places : List FoundOn) (last vol : ℕ) (found : Option FoundFiles) → last ≢ vol → found_on (with_found last places found) vol ≡ found_on places vol
found_elsewhere places last vol None apart = refl
found_elsewhere places last vol (Some files) apart = found_behind places last vol files apart

-- nothing was found on a volume past these
first_below : (on : FoundOn) (places : List FoundOn) (i : ℕ) → volumes_to i (on ∷ places) → on.vol ≤ i
first_below on places i all = (all 0 on (omega arith)).1

rest_below : (on : FoundOn) (places : List FoundOn) (i : ℕ) → volumes_to i (on ∷ places) → volumes_to i places
rest_below on places i all = All-tail (is_up_to i) on places all

none_yet : (places : List FoundOn) (i : ℕ) → volumes_to i places → found_on places (i + 1) ≡ None
none_yet [] i all = refl
none_yet (on ∷ places) i all =
    let below = first_below on places i all in
    ap (λ b. if b then Some on.files else found_on places (i + 1)) (ne_eqb on.vol (i + 1) (λ same. omega (arith, below, same)))
    ∙ none_yet places i (rest_below on places i all)

found_at_last : (places : List FoundOn) (i : ℕ) (files : FoundFiles) → volumes_to i places → found_on (places ++ placed (i + 1) files ∷ []) (i + 1) ≡ Some files
found_at_last [] i files all = rw (eq-eqb (i + 1) (i + 1) refl) refl
found_at_last (on ∷ places) i files all =
    let below = first_below on places i all in
    ap (λ b. if b then Some on.files else found_on (places ++ placed (i + 1) files ∷ []) (i + 1)) (ne_eqb on.vol (i + 1) (λ same. omega (arith, below, same)))
    ∙ found_at_last places i files (rest_below on places i all)

found_here : (places : List FoundOn) (i : ℕ) (found : Option FoundFiles) → volumes_to i places → found_on (with_found (i + 1) places found) (i + 1) ≡ found
found_here places i None all = none_yet places i all
found_here places i (Some files) all = found_at_last places i files all

-- ---- the places of each block

one_further : (places : List FoundOn) (i : ℕ) → volumes_to i places → volumes_to (i + 1) places
one_further places i all k d below = (let on = all k d below in (on.0, omega (arith, on.1)))

are_placed : (places : List FoundOn) (i : ℕ) (found : Option FoundFiles) → ArePlaces i places → ((files : FoundFiles) → found ≡ Some files → AreFiles (Some files))
    → ArePlaces (i + 1) (with_found (i + 1) places found)
are_placed places i None are stamps = record { rise = are.rise; on_volumes = one_further places i are.on_volumes; files = are.files }
are_placed places i (Some files) are stamps = record {
  rise = all_pairs_push (λ (on other : FoundOn). on.vol < other.vol) places (placed (i + 1) files) are.rise (λ k d below. (let on = are.on_volumes k d below in omega (arith, on.1)));
  on_volumes = All-push (is_up_to (i + 1)) places (placed (i + 1) files) (one_further places i are.on_volumes) (omega arith, omega arith);
  files = All-push (λ (on : FoundOn). AreFiles (Some on.files)) places (placed (i + 1) files) are.files (stamps files refl);
}

module _ (i : ℕ) (before after : PoolSurvey) (are : ArePoolBlocks i before.blocks) (survey : Survey)
    (merged : (id : ℕ) → places_of after.blocks id ≡ with_found (i + 1) (places_of before.blocks id) (found_of survey.blocks id)) where
  pub are_pool_blocks : AreBlocks survey.blocks → HaveBlockIds after.blocks → ArePoolBlocks (i + 1) after.blocks
  are_pool_blocks found ids = record {
    ids = ids;
    places = λ id. subst (ArePlaces (i + 1)) (sym (merged id))
        (are_placed (places_of before.blocks id) i (found_of survey.blocks id) (are.places id) (λ files is. files_at survey.blocks id (Some files) is found));
  }

  module _ (temporary : after.temporary.items ≡ before.temporary.items ++ survey.temporary ∷ []) (world : World)
      (so_far : IsPoolSurveyOf world i before) (last : IsSurveyOf world (i + 1) survey) where
    exact_on : (id : ℕ) → IsBlockId id → (vol : ℕ) → 1 ≤ vol → vol ≤ i + 1 → IsExact world vol id (found_on (places_of after.blocks id) vol)
    exact_on id valid vol low high = elim (cases_eq (i + 1) vol) [
      | inl here ↦
          subst (λ v. IsExact world v id (found_on (places_of after.blocks id) v)) here
          (subst (IsExact world (i + 1) id) (sym (ap (λ places. found_on places (i + 1)) (merged id)
          ∙ found_here (places_of before.blocks id) i (found_of survey.blocks id) (are.places id).on_volumes)) (last.blocks id valid))
      | inr apart ↦
          subst (IsExact world vol id) (sym (ap (λ places. found_on places vol) (merged id)
          ∙ found_elsewhere (places_of before.blocks id) (i + 1) vol (found_of survey.blocks id) apart))
          (so_far.blocks id valid vol low (omega (arith, high, apart)))
    ]

    listed_on : (vol : ℕ) → 1 ≤ vol → vol ≤ i + 1 → IsListing world vol (codes "tmp") (get_or after.temporary.items (vol - 1) [])
    listed_on vol low high = elim (cases_eq (i + 1) vol) [
      | inl here ↦
          subst (λ v. IsListing world v (codes "tmp") (get_or after.temporary.items (v - 1) [])) here
          (subst (IsListing world (i + 1) (codes "tmp")) (sym (ap (λ (names : List (List (List ℕ))). get_or names (i + 1 - 1) []) temporary
          ∙ get_or_push before.temporary.items survey.temporary [] (i + 1 - 1) (so_far.counted ∙ omega arith))) last.temporary)
      | inr apart ↦
          let within : vol - 1 < length before.temporary.items = subst (λ n. vol - 1 < n) (sym so_far.counted) (omega (arith, low, high, apart)) in
          subst (IsListing world vol (codes "tmp")) (sym (ap (λ (names : List (List (List ℕ))). get_or names (vol - 1) []) temporary
          ∙ get_or_append_left before.temporary.items (survey.temporary ∷ []) [] (vol - 1) within))
          (so_far.temporary vol low (omega (arith, high, apart)))
    ]

    pub one_more_volume : IsPoolSurveyOf world (i + 1) after
    one_more_volume = record {
      blocks = exact_on;
      counted = ap (λ (names : List (List (List ℕ))). length names) temporary ∙ length-append before.temporary.items (survey.temporary ∷ [])
          ∙ ap (λ n. n + 1) so_far.counted;
      temporary = listed_on;
    }

-- ---- the volumes so far

-- the first volumes were surveyed, and no call was made before the first of them
pub record HaveSurveyed {D S T R : Type 0} (g : Ghosts D S T R) (i : ℕ) (first now : D) (survey : PoolSurvey) : Type 0 where
  pub start : i ≡ 0 → now ≡ first
  pub one : 1 ≤ i → TellOne (g.worlds now)
  pub looks : Looks g first now
  pub blocks : ArePoolBlocks i survey.blocks
  pub each : InEachWorld (g.worlds now) (λ world. IsPoolSurveyOf world i survey)
  pub counted : length survey.temporary.items ≡ i

module _ {D S T R : Type 0} {g : Ghosts D S T R} (i : ℕ) (first mid new : D) (before : PoolSurvey) (have : HaveSurveyed g i first mid before) (not_empty : g.worlds new ≢ Some [])
    (call : Looks g mid new) where
  -- after one more call, whatever it answers
  pub looked_further : Looks g first new
  looked_further = looks_then first mid new begun not_empty have.looks call
    where
      begun : (mid ≡ first) ⊎ TellOne (g.worlds mid)
      begun = elim (cases_eq i 0) [ inl none ↦ inl (have.start none) | inr some ↦ inr (have.one (omega (arith, some))) ]

  -- after one more survey
  pub surveyed_further : (survey : Survey) (after : PoolSurvey) → PicksOne (λ world. IsSurveyOf world (i + 1) survey) (λ world. world) (g.worlds mid) (g.worlds new)
      → AreBlocks survey.blocks → HaveBlockIds after.blocks
      → ((id : ℕ) → places_of after.blocks id ≡ with_found (i + 1) (places_of before.blocks id) (found_of survey.blocks id))
      → after.temporary.items ≡ before.temporary.items ++ survey.temporary ∷ [] → HaveSurveyed g (i + 1) first new after
  surveyed_further survey after picks found ids merged temporary = record {
    start = λ none. absurd (omega (arith, none));
    one = λ some. tell_one picks;
    looks = looked_further;
    blocks = are_pool_blocks i before after have.blocks survey merged found ids;
    each = λ world is. one_more_volume i before after have.blocks survey merged temporary world (have.each world (remains picks world is)) (answered picks world is);
    counted = ap length temporary ∙ length-append before.temporary.items (survey.temporary ∷ []) ∙ ap (λ n. n + 1) have.counted;
  }

-- after the last volume the survey is that of one world
pub all_volumes : {D S T R : Type 0} {g : Ghosts D S T R} (first last : D) (survey : PoolSurvey) → HaveSurveyed g (g.volume_count first) first last survey → 1 ≤ g.volume_count first
    → PicksOne (λ world. IsPoolSurveyOf world (g.volume_count first) survey) (λ world. world) (g.worlds first) (g.worlds last)
all_volumes {g = g} first last survey have some =
    picked_one (λ world. IsPoolSurveyOf world (g.volume_count first) survey) (g.worlds first) (g.worlds last) have.looks.remains have.looks.honest (have.one some) have.each
