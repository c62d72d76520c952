-- Exactness of the files of some directories, from what their listings tell.
use Rattle.std.proofs.Common.{◌≡◌, ◌<◌, ◌≤◌, ◌+◌, ℕ, Bool, true, false, List, inl, inr, ◌⊎◌, Option, Contains, refl, sym, ◌∙◌, subst, arith}
use Rattle.std.specs.Prelude.{IsTrue, IsFalse, ◌&&◌, ◌||◌, ◌==◌, bytes_eq, nat_lt}
use Rattle.std.specs.List.{list_any}
use Rattle.std.proofs.lemmas.Cmp.{nat_list_eq_equiv}
use Rattle.std.proofs.lemmas.Bool.{false≢true, and_parts, and_from, and_left, and_right, and_cases, or_left, or_right, or_cases, or_parts, cases_Bool, cases_lt, ltb-true, lt-ltb, le-ltb, eqb-true, eq-eqb}
use Rattle.std.proofs.lemmas.Slice.Eq.{bytes_eq-Decides}
use Rattle.std.proofs.lemmas.Map.Views.{Contains-from_any, list_any-from_Contains}
use Rattle.std.specs.BTreeMap.{BTreeMap}
use Rattle.volume_layout.specs.Paths.{IsBlockId, dir_path, outer_dir, inner_dir}
use Rattle.disk_model.specs.Worlds.{World, IsListing}
use Rattle.disk_model.specs.Told.{IsWorldOf, InEachWorld}
use Rattle.volume_layout.specs.declared.block_file.BlockFile.{BlockFile}
use Rattle.volume_layout.specs.BlockFiles.{is_file, dir_of, name_of}
use Rattle.map_model.proofs.Directories.{file_listed, listed_file}
use Rattle.pool_survey.specs.declared.naming.Directory.{Directory}
use Rattle.pool_survey.specs.declared.naming.Directory.TheVariants.{Finalised}
use Rattle.pool_survey.specs.declared.found.FoundFiles.{FoundFiles}
use Rattle.pool_survey.specs.Found.{AreBlocks, found_of}
use Rattle.pool_survey.specs.Directories.{directory_path, is_finalised, is_in}
use Rattle.pool_survey.specs.Regions.{Region, NoneFound, AreExact, AreSameOutside, is_found, in_row, in_row_before, in_rows_before, in_finalised}
use Rattle.pool_survey.proofs.NameLemmas.{stands_in}

-- two tests that pass alike
same_tests : (a b : Bool) → (a ≡ true → b ≡ true) → (b ≡ true → a ≡ true) → a ≡ b
same_tests true b there back = sym (there refl)
same_tests false true there back = back refl
same_tests false false there back = refl

bytes_exact : (x y : List ℕ) → bytes_eq x y ≡ true → x ≡ y
bytes_exact x y same = (bytes_eq-Decides x y).0 same

listed_by_any : (name : List ℕ) (names : List (List ℕ)) → Contains names name → list_any (bytes_eq name) names ≡ true
listed_by_any name names has = list_any-from_Contains nat_list_eq_equiv name names has

-- ---- one directory

-- what the listing of a directory names stands there
pub exact_directory : (dir : Directory) (world : World) (vol : ℕ) (names : List (List ℕ)) (blocks : BTreeMap ℕ FoundFiles) →
    IsListing world vol (directory_path dir) names →
    ((id : ℕ) → IsBlockId id → (file : BlockFile) → IsTrue (is_file file) → IsTrue (is_in dir id file) → is_found (found_of blocks id) file ≡ list_any (bytes_eq (name_of id file)) names) →
    AreExact (is_in dir) world vol blocks
exact_directory dir world vol names blocks listing listed id valid file is in' =
    let here : IsListing world vol (dir_of id file) names = subst (λ d. IsListing world vol d names) (sym (stands_in dir id file in')) listing in
    listed id valid file is in'
    ∙ same_tests _ _
    (λ any. listed_file world id vol file names valid is here (Contains-from_any bytes_exact (name_of id file) names any))
    (λ there. listed_by_any (name_of id file) names (file_listed world id vol file names valid is here there))

-- ---- regions

-- the files of one more region
pub exact_more : (region more whole : Region) (world : World) (vol : ℕ) (before now : BTreeMap ℕ FoundFiles) →
    ((id : ℕ) (file : BlockFile) → IsTrue (whole id file) → (more id file ≡ true) ⊎ ((more id file ≡ false) × (region id file ≡ true))) →
    AreExact region world vol before → AreExact more world vol now → AreSameOutside more before now → AreExact whole world vol now
exact_more region more whole world vol before now splits old new same id valid file is in' = elim (splits id file in') [
  | inl here ↦ new id valid file is here
  | inr there ↦ same id valid file is there.0 ∙ old id valid file is there.1
]

-- what was found elsewhere stays
pub same_more : (region more whole : Region) (first before now : BTreeMap ℕ FoundFiles) →
    ((id : ℕ) (file : BlockFile) → IsFalse (whole id file) → (more id file ≡ false) × (region id file ≡ false)) →
    AreSameOutside region first before → AreSameOutside more before now → AreSameOutside whole first now
same_more region more whole first before now splits old new id valid file is out =
    let parts = splits id file out in
    new id valid file is parts.0 ∙ old id valid file is parts.1

-- nothing was found yet in the next region
pub still_none : (region more whole : Region) (first before : BTreeMap ℕ FoundFiles) →
    ((id : ℕ) (file : BlockFile) → IsTrue (more id file) → (region id file ≡ false) × (whole id file ≡ true)) →
    NoneFound whole first → AreSameOutside region first before → NoneFound more before
still_none region more whole first before splits none same id valid file is in' =
    let parts = splits id file in' in
    same id valid file is parts.0 ∙ none id valid file is parts.1

-- a region that has all files of another
pub exact_part : (region part : Region) (world : World) (vol : ℕ) (blocks : BTreeMap ℕ FoundFiles) →
    ((id : ℕ) (file : BlockFile) → IsTrue (part id file) → IsTrue (region id file)) → AreExact region world vol blocks → AreExact part world vol blocks
exact_part region part world vol blocks has exact id valid file is in' = exact id valid file is (has id file in')

pub same_part : (region part : Region) (first now : BTreeMap ℕ FoundFiles) →
    ((id : ℕ) (file : BlockFile) → IsFalse (part id file) → IsFalse (region id file)) → AreSameOutside region first now → AreSameOutside part first now
same_part region part first now has same id valid file is out = same id valid file is (has id file out)

-- ---- one more number, where a test of the others is p

-- what is at the next number, and what is before it
next_number : (n m : ℕ) → nat_lt n (m + 1) ≡ (nat_lt n m || (n == m))
next_number n m = same_tests _ _
    (λ less. elim (cases_lt n m) [
      | inl below ↦ or_left _ _ (lt-ltb n m below)
      | inr above ↦ or_right (nat_lt n m) (n == m) (let bound : n < m + 1 = ltb-true n (m + 1) less in eq-eqb n m (omega (arith, above, bound)))
    ])
    (λ some. elim (or_cases (nat_lt n m) (n == m) some) [
      | inl less ↦ (let below : n < m = ltb-true n m less in lt-ltb n (m + 1) (omega (arith, below)))
      | inr same ↦ (let is : n ≡ m = eqb-true n m same in lt-ltb n (m + 1) (omega (arith, is)))
    ])

not_before : (n m : ℕ) → (n == m) ≡ true → nat_lt n m ≡ false
not_before n m same = le-ltb n m (let is : n ≡ m = eqb-true n m same in omega (arith, is))

module _ (p : Bool) (n m : ℕ) where
  splits : (p && nat_lt n (m + 1)) ≡ true → ((p && (n == m)) ≡ true) ⊎ (((p && (n == m)) ≡ false) × ((p && nat_lt n m) ≡ true))
  splits both =
      let parts = and_parts p (nat_lt n (m + 1)) both in
      elim (cases_Bool (n == m)) [
        | inl here ↦ inl (and_from p (n == m) parts.0 here)
        | inr apart ↦ inr (
          and_right p (n == m) apart,
          and_from p (nat_lt n m) parts.0
              (elim (or_cases (nat_lt n m) (n == m) (sym (next_number n m) ∙ parts.1)) [ inl less ↦ less | inr same ↦ absurd (false≢true (sym apart ∙ same)) ]),
        )
      ]

  outside : (p && nat_lt n (m + 1)) ≡ false → ((p && (n == m)) ≡ false) × ((p && nat_lt n m) ≡ false)
  outside none = elim (and_cases p (nat_lt n (m + 1)) none) [
    | inl not_p ↦ (and_left p (n == m) not_p, and_left p (nat_lt n m) not_p)
    | inr later ↦
        let parts = or_parts (nat_lt n m) (n == m) (sym (next_number n m) ∙ later) in
        (and_right p (n == m) parts.1, and_right p (nat_lt n m) parts.0)
  ]

  inside : (p && (n == m)) ≡ true → ((p && nat_lt n m) ≡ false) × (p ≡ true)
  inside both = let parts = and_parts p (n == m) both in (and_right p (nat_lt n m) (not_before n m parts.1), parts.0)

  bounded : n < m → p ≡ true → (p && nat_lt n m) ≡ true
  bounded below is = and_from p (nat_lt n m) is (lt-ltb n m below)

  all_bounded : n < m → p ≡ false → (p && nat_lt n m) ≡ false
  all_bounded below isnt = and_left p (nat_lt n m) isnt

none_before : (p : Bool) (n : ℕ) → (p && nat_lt n 0) ≡ true → ⊥
none_before p n both = false≢true (sym (le-ltb n 0 (omega arith)) ∙ (and_parts p (nat_lt n 0) both).1)

-- ---- the directories so far

-- the blocks, what was found in a region, and what was found elsewhere
pub record Surveyed (region : Region) (told : Option (List World)) (vol : ℕ) (first blocks : BTreeMap ℕ FoundFiles) : Type 0 where
  pub are : AreBlocks blocks
  pub exact : InEachWorld told (λ world. AreExact region world vol blocks)
  pub others : AreSameOutside region first blocks

abbrev row : ℕ → ℕ → BlockFile → Bool
row d1 id file = is_finalised file && (outer_dir id == d1)

pub no_directory : (d1 : ℕ) (told : Option (List World)) (vol : ℕ) (first : BTreeMap ℕ FoundFiles) → AreBlocks first → Surveyed (in_row_before d1 0) told vol first first
no_directory d1 told vol first are = record {
  are = are;
  exact = λ world is id valid file is_f in'. absurd (none_before (row d1 id file) (inner_dir id) in');
  others = λ id valid file is out. refl;
}

pub no_row : (told : Option (List World)) (vol : ℕ) (first : BTreeMap ℕ FoundFiles) → AreBlocks first → Surveyed (in_rows_before 0) told vol first first
no_row told vol first are = record {
  are = are;
  exact = λ world is id valid file is_f in'. absurd (none_before (is_finalised file) (outer_dir id) in');
  others = λ id valid file is out. refl;
}

-- one more directory or row
more : (region next whole : Region) (told told' : Option (List World)) (vol : ℕ) (first before now : BTreeMap ℕ FoundFiles) →
    ((id : ℕ) (file : BlockFile) → IsTrue (whole id file) → (next id file ≡ true) ⊎ ((next id file ≡ false) × (region id file ≡ true))) →
    ((id : ℕ) (file : BlockFile) → IsFalse (whole id file) → (next id file ≡ false) × (region id file ≡ false)) →
    Surveyed region told vol first before → told' ≡ told → AreBlocks now → InEachWorld told' (λ world. AreExact next world vol now) →
    AreSameOutside next before now → Surveyed whole told' vol first now
more region next whole told told' vol first before now split out sofar same are exact others = record {
  are = are;
  exact = λ world is. exact_more region next whole world vol before now split (sofar.exact world (subst (λ t. IsWorldOf t world) same is)) (exact world is) others;
  others = same_more region next whole first before now out sofar.others others;
}

module _ (d1 d2 : ℕ) (told told' : Option (List World)) (vol : ℕ) (first before now : BTreeMap ℕ FoundFiles) (sofar : Surveyed (in_row_before d1 d2) told vol first before) where
  pub next_is_fresh : NoneFound (in_row d1) first → NoneFound (is_in (Finalised d1 d2)) before
  next_is_fresh none =
      still_none (in_row_before d1 d2) (is_in (Finalised d1 d2)) (in_row d1) first before (λ id file. inside (row d1 id file) (inner_dir id) d2) none sofar.others

  pub next_directory : told' ≡ told → AreBlocks now → (names : List (List ℕ)) → InEachWorld told' (λ world. IsListing world vol (dir_path d1 d2) names) →
      ((id : ℕ) → IsBlockId id → (file : BlockFile) → IsTrue (is_file file) → IsTrue (is_in (Finalised d1 d2) id file) →
      is_found (found_of now id) file ≡ list_any (bytes_eq (name_of id file)) names) →
      AreSameOutside (is_in (Finalised d1 d2)) before now → Surveyed (in_row_before d1 (d2 + 1)) told' vol first now
  next_directory same are names listing listed others =
      more (in_row_before d1 d2) (is_in (Finalised d1 d2)) (in_row_before d1 (d2 + 1)) told told' vol first before now
      (λ id file. splits (row d1 id file) (inner_dir id) d2) (λ id file. outside (row d1 id file) (inner_dir id) d2)
      sofar same are (λ world is. exact_directory (Finalised d1 d2) world vol names now (listing world is) listed) others

-- all directories of a row
pub whole_row : (d1 n : ℕ) → 32 ≤ n → (told : Option (List World)) (vol : ℕ) (first now : BTreeMap ℕ FoundFiles) → Surveyed (in_row_before d1 n) told vol first now →
    Surveyed (in_row d1) told vol first now
whole_row d1 n end told vol first now all = record {
  are = all.are;
  exact = λ world is. exact_part (in_row_before d1 n) (in_row d1) world vol now (λ id file. bounded (row d1 id file) (inner_dir id) n (omega (arith, end))) (all.exact world is);
  others = same_part (in_row_before d1 n) (in_row d1) first now (λ id file. all_bounded (row d1 id file) (inner_dir id) n (omega (arith, end))) all.others;
}

module _ (d1 : ℕ) (told told' : Option (List World)) (vol : ℕ) (first before now : BTreeMap ℕ FoundFiles) (sofar : Surveyed (in_rows_before d1) told vol first before) where
  pub next_row_is_fresh : NoneFound in_finalised first → NoneFound (in_row d1) before
  next_row_is_fresh none =
      still_none (in_rows_before d1) (in_row d1) in_finalised first before (λ id file. inside (is_finalised file) (outer_dir id) d1) none sofar.others

  pub next_row : told' ≡ told → AreBlocks now → InEachWorld told' (λ world. AreExact (in_row d1) world vol now) → AreSameOutside (in_row d1) before now →
      Surveyed (in_rows_before (d1 + 1)) told' vol first now
  next_row same are exact others =
      more (in_rows_before d1) (in_row d1) (in_rows_before (d1 + 1)) told told' vol first before now
      (λ id file. splits (is_finalised file) (outer_dir id) d1) (λ id file. outside (is_finalised file) (outer_dir id) d1) sofar same are exact others

pub all_rows : (n : ℕ) → 32 ≤ n → (told : Option (List World)) (vol : ℕ) (first now : BTreeMap ℕ FoundFiles) → Surveyed (in_rows_before n) told vol first now →
    Surveyed in_finalised told vol first now
all_rows n end told vol first now all = record {
  are = all.are;
  exact = λ world is. exact_part (in_rows_before n) in_finalised world vol now (λ id file. bounded (is_finalised file) (outer_dir id) n (omega (arith, end))) (all.exact world is);
  others = same_part (in_rows_before n) in_finalised first now (λ id file. all_bounded (is_finalised file) (outer_dir id) n (omega (arith, end))) all.others;
}
