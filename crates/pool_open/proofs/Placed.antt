-- What was found of a block on the volumes of a pool, by the volume.
use Rattle.std.proofs.Common.{◌≡◌, ◌⊎◌, ◌<◌, ◌≤◌, inl, inr, ℕ, suc, Bool, true, false, List, [], ◌∷◌, Option, Some, None, Contains, length, get_or, map, refl, ap, sym, ◌∙◌, subst, arith}
use Rattle.std.specs.Prelude.{MatchBool, AllPairs, ◌==◌, ◌||◌, if◌then◌else◌}
use Rattle.std.specs.List.{flat_map}
use Rattle.std.specs.Ordering.{nat_cmp}
use Rattle.std.specs.BTreeMap.{BTreeMap, get}
use Rattle.std.specs.declared.vec.Vec.{Vec}
use Rattle.std.specs.declared.alloc.Global.{Global}
use Rattle.std.proofs.lemmas.Bool.{false≢true, or_cases}
use Rattle.std.proofs.lemmas.Bool.Decides.{eqb_tells}
use Rattle.std.proofs.lemmas.List.{get_or-map, length-map}
use Rattle.std.proofs.lemmas.List.Elements.{Contains-append_left, Contains-append_right, Contains-append_cases}
use Rattle.std.proofs.lemmas.Option.{none-some, same_Some}
use Rattle.disk_model.proofs.Laws.{has_one, only_one}
use Rattle.pool_survey.specs.declared.found.FoundFiles.{FoundFiles}
use Rattle.pool_survey.specs.declared.places.FoundOn.{FoundOn}
use Rattle.pool_survey.specs.Found.{has_block, metas_of, has_writing}
use Rattle.pool_survey.specs.Places.{found_on, places_of}
use Rattle.pool_open.specs.Plan.{first_stamp, copy_stamp, leaves_block, leaves_some}
use Rattle.pool_open.specs.Found.{IsFirstLeft}

pub none_in : {X : Type 0} (x : X) → Contains {X = X} [] x → ⊥
none_in x has = absurd (omega (arith, has.1))

-- the first of a list, and a later one
pub first_in : {X : Type 0} (x : X) (xs : List X) → Contains (x ∷ xs) x
first_in x xs = Contains-append_left (x ∷ []) xs x (has_one x)

pub later_in : {X : Type 0} (x : X) (xs : List X) (y : X) → Contains xs y → Contains (x ∷ xs) y
later_in x xs y has = Contains-append_right (x ∷ []) xs y has

pub in_cases : {X : Type 0} (x : X) (xs : List X) (y : X) → Contains (x ∷ xs) y → (x ≡ y) ⊎ Contains xs y
in_cases x xs y has = elim (Contains-append_cases (x ∷ []) xs y has) [ inl here ↦ inl (only_one x y here) | inr later ↦ inr later ]

-- the piece that an element of a list of pieces is in
pub flat_from : {X Y : Type 0} (f : X → List Y) (xs : List X) (y : Y) → Contains (flat_map f xs) y → (x : X) × Contains xs x × Contains (f x) y
flat_from f [] y has = absurd (none_in y has)
flat_from f (x ∷ xs) y has = elim (Contains-append_cases (f x) (flat_map f xs) y has) [
  | inl here ↦ (x, first_in x xs, here)
  | inr later ↦ let rest = flat_from f xs y later in (rest.0, later_in x xs rest.0 rest.1, rest.2)
]

abbrev Rises : List FoundOn → Type 0
Rises places = AllPairs (λ on other. on.vol < other.vol) places

rise_tail : (on : FoundOn) (places : List FoundOn) → Rises (on ∷ places) → Rises places
rise_tail on places rise = λ i j d below inside. rise (suc i) (suc j) d (omega (arith, below)) (omega (arith, inside))

rise_head : (on : FoundOn) (places : List FoundOn) → Rises (on ∷ places) → (other : FoundOn) → Contains places other → on.vol < other.vol
rise_head on places rise other has =
    subst (λ (o : FoundOn). on.vol < o.vol) has.2 (rise 0 (suc has.0) other (omega arith) (omega (arith, has.1)))

-- what was found on a volume is one of the places
pub on_there : (places : List FoundOn) (vol : ℕ) (files : FoundFiles) → found_on places vol ≡ Some files →
    (on : FoundOn) × Contains places on × (on.vol ≡ vol) × (on.files ≡ files)
on_there [] vol files is = absurd (none-some files is)
on_there (on ∷ places) vol files is = elim (eqb_tells on.vol vol) [
  | inl here ↦ (on, first_in on places, here.1, same_Some on.files files (sym (rw here.0 refl) ∙ is))
  | inr away ↦
      let rest = on_there places vol files (sym (rw away.0 refl) ∙ is) in
      (rest.0, later_in on places rest.0 rest.1, rest.2, rest.3)
]

apart_at : (vol other : ℕ) → vol < other → (vol == other) ≡ false
apart_at vol other below = elim (eqb_tells vol other) [ inl same ↦ absurd (omega (arith, below, same.1)) | inr apart ↦ apart.0 ]

same_at : (vol : ℕ) → (vol == vol) ≡ true
same_at vol = elim (eqb_tells vol vol) [ inl same ↦ same.0 | inr apart ↦ absurd (apart.1 refl) ]

-- and one of the places is what was found on its volume
pub found_there : (places : List FoundOn) → AllPairs (λ on other. on.vol < other.vol) places → (on : FoundOn) → Contains places on →
    found_on places on.vol ≡ Some on.files
found_there [] rise on has = absurd (none_in on has)
found_there (first ∷ places) rise on has = elim (in_cases first places on has) [
  | inl here ↦ subst (λ (o : FoundOn). found_on (first ∷ places) o.vol ≡ Some o.files) here (rw (same_at first.vol) refl)
  | inr later ↦ rw (apart_at first.vol on.vol (rise_head first places rise on later)) (found_there places (rise_tail first places rise) on later)
]

-- the places of a block, by what the table has under its id
pub places_here : (blocks : BTreeMap ℕ (Vec FoundOn Global)) (id : ℕ) (found : Vec FoundOn Global) → get nat_cmp blocks id ≡ Some found → places_of blocks id ≡ found.items
places_here blocks id found is = rw is refl

pub no_places : (blocks : BTreeMap ℕ (Vec FoundOn Global)) (id : ℕ) → get nat_cmp blocks id ≡ None → places_of blocks id ≡ []
no_places blocks id is = rw is refl

-- ---- copies

-- the stamp of the copy that was found on a volume
abbrev pub copy_of : Option FoundFiles → Option ℕ
copy_of None = None
copy_of (Some files) = copy_stamp files

pub copy_here : (files : FoundFiles) (stamp : ℕ) → copy_stamp files ≡ Some stamp → (files.block ≡ true) × (more : List ℕ) × (files.metas.items ≡ stamp ∷ more)
copy_here files stamp is = by_block files.block refl is
  where
    by_metas : (metas : List ℕ) → files.metas.items ≡ metas → first_stamp metas ≡ Some stamp → (more : List ℕ) × (files.metas.items ≡ stamp ∷ more)
    by_metas [] are is = absurd (none-some stamp is)
    by_metas (one ∷ more) are is = (more, are ∙ ap (λ s. s ∷ more) (same_Some one stamp is))

    by_block : (b : Bool) → files.block ≡ b → (if b then first_stamp files.metas.items else None) ≡ Some stamp → (files.block ≡ true) × (more : List ℕ) × (files.metas.items ≡ stamp ∷ more)
    by_block true there is = let metas = by_metas files.metas.items refl is in (there, metas.0, metas.1)
    by_block false none is = absurd (none-some stamp is)

-- the block file and the stamp of a copy
pub copy_found : (found : Option FoundFiles) (stamp : ℕ) → copy_of found ≡ Some stamp → (has_block found ≡ true) × (more : List ℕ) × (metas_of found ≡ stamp ∷ more)
copy_found None stamp is = absurd (none-some stamp is)
copy_found (Some files) stamp is = copy_here files stamp is

only_stamp : (metas : List ℕ) (stamp : ℕ) → length metas ≤ 1 → Contains metas stamp → metas ≡ stamp ∷ []
only_stamp [] stamp few has = absurd (none_in stamp has)
only_stamp (one ∷ []) stamp few has = ap (λ s. s ∷ []) (only_one one stamp has)
only_stamp (one ∷ next ∷ more) stamp few has = absurd (omega (arith, few))

-- a block file and a meta, where one meta was found, are a copy
pub found_copy : (found : Option FoundFiles) (stamp : ℕ) → (has_block found ≡ true → length (metas_of found) ≤ 1) → has_block found ≡ true → Contains (metas_of found) stamp → copy_of found ≡ Some stamp
found_copy None stamp few there has = absurd (none_in stamp has)
found_copy (Some files) stamp few there has = rw there (ap first_stamp (only_stamp files.metas.items stamp (few there) has))

-- and its stamp is that of each meta there
pub copy_meta : (found : Option FoundFiles) (stamp other : ℕ) → (has_block found ≡ true → length (metas_of found) ≤ 1) → copy_of found ≡ Some stamp → Contains (metas_of found) other → other ≡ stamp
copy_meta found stamp other few is has =
    same_Some other stamp (sym (found_copy found other few (copy_found found stamp is).0 has) ∙ is)

-- without a copy no meta stands beside a block file
pub no_copy_meta : (found : Option FoundFiles) (stamp : ℕ) → (has_block found ≡ true → length (metas_of found) ≤ 1) → copy_of found ≡ None → has_block found ≡ true → Contains (metas_of found) stamp → ⊥
no_copy_meta found stamp few none there has = none-some stamp (sym none ∙ found_copy found stamp few there has)

-- ---- block files that are left

-- a block file was found on the volume, finalised or being written
abbrev pub leaves_found : Option FoundFiles → Bool
leaves_found found = has_block found || has_writing found

pub some_leaves : (places : List FoundOn) → leaves_some places ≡ true → (on : FoundOn) × Contains places on × (leaves_block on ≡ true)
some_leaves [] is = absurd (false≢true is)
some_leaves (on ∷ places) is = elim (or_cases (leaves_block on) (leaves_some places) is) [
  | inl here ↦ (on, first_in on places, here)
  | inr later ↦ let rest = some_leaves places later in (rest.0, later_in on places rest.0 rest.1, rest.2)
]

pub none_leaves : (places : List FoundOn) → leaves_some places ≡ false → (on : FoundOn) → Contains places on → leaves_block on ≡ true → ⊥
none_leaves [] is on has leaves = none_in on has
none_leaves (first ∷ places) is on has leaves = elim (in_cases first places on has) [
  | inl here ↦ false≢true (sym (first_none (leaves_block first) (leaves_some places) is) ∙ ap leaves_block here ∙ leaves)
  | inr later ↦ none_leaves places (rest_none (leaves_block first) (leaves_some places) is) on later leaves
]
  where
    first_none : (a b : Bool) → (a || b) ≡ false → a ≡ false
    first_none false b is = refl
    first_none true b is = is

    rest_none : (a b : Bool) → (a || b) ≡ false → b ≡ false
    rest_none false b is = is
    rest_none true b is = absurd (false≢true (sym is))

-- the first of them is one, on the lowest volume
pub first_left : (places : List FoundOn) (first : FoundOn) → IsFirstLeft places first → Contains places first × (leaves_block first ≡ true)
first_left [] first is = absurd is
first_left (on ∷ places) first is = by_case (first_left places first) (leaves_block on) refl is
  where
    by_case : (IsFirstLeft places first → Contains places first × (leaves_block first ≡ true)) → (b : Bool) → leaves_block on ≡ b →
        MatchBool b (on ≡ first) (IsFirstLeft places first) → Contains (on ∷ places) first × (leaves_block first ≡ true)
    by_case more true leaves is = (subst (λ (o : FoundOn). Contains (on ∷ places) o) is (first_in on places), ap leaves_block (sym is) ∙ leaves)
    by_case more false none is = let rest = more is in (later_in on places first rest.0, rest.1)

pub first_lowest : (places : List FoundOn) (first : FoundOn) → AllPairs (λ on other. on.vol < other.vol) places → IsFirstLeft places first →
    (other : FoundOn) → Contains places other → leaves_block other ≡ true → first.vol ≤ other.vol
first_lowest [] first rise is other has leaves = absurd is
first_lowest (on ∷ places) first rise is other has leaves =
    by_case (λ it later. first_lowest places first (rise_tail on places rise) it other later leaves) (leaves_block on) refl is
  where
    by_case : (IsFirstLeft places first → Contains places other → first.vol ≤ other.vol) → (b : Bool) → leaves_block on ≡ b →
        MatchBool b (on ≡ first) (IsFirstLeft places first) → first.vol ≤ other.vol
    by_case more true here is = elim (in_cases on places other has) [
      | inl same ↦ let vols : first.vol ≡ other.vol = ap (λ (o : FoundOn). o.vol) (sym is ∙ same) in omega (arith, vols)
      | inr later ↦
          let below = rise_head on places rise other later in
          let vols : on.vol ≡ first.vol = ap (λ (o : FoundOn). o.vol) is in
          omega (arith, below, vols)
    ]
    by_case more false none is = elim (in_cases on places other has) [
      | inl same ↦ absurd (false≢true (sym none ∙ ap leaves_block same ∙ leaves))
      | inr later ↦ more is later
    ]

-- the volumes rise
pub vols_rise : (places : List FoundOn) → AllPairs (λ on other. on.vol < other.vol) places → AllPairs (λ one other. one < other) (map (λ (on : FoundOn). on.vol) places)
vols_rise [] rise = λ i j d below inside. absurd (omega (arith, inside))
vols_rise (on ∷ places) rise = λ i j d below inside.
    let long : j < length (on ∷ places) = subst (λ n. j < n) (length-map (on ∷ places) (λ (o : FoundOn). o.vol)) inside in
    let vol_at : (k : ℕ) → k < length (on ∷ places) → get_or (map (λ (o : FoundOn). o.vol) (on ∷ places)) k d ≡ (get_or (on ∷ places) k on).vol =
    λ k below. get_or-map (λ (o : FoundOn). o.vol) (on ∷ places) k on d below in
    let less = rise i j on below long in
    let one = vol_at i (omega (arith, below, long)) in
    let other = vol_at j long in
    omega (arith, less, one, other)
