-- What was found after the first names of a directory.
use Rattle.std.proofs.Common.{◌≡◌, ◌≢◌, ◌<◌, ℕ, ◌+◌, Bool, true, false, List, Some, refl, ap, sym, ◌∙◌, subst, arith, take, length, get_or, get_or-take}
use Rattle.std.proofs.lemmas.List.{length-take-le}
use Rattle.std.specs.Prelude.{IsTrue, IsFalse, ◌&&◌, ◌||◌, ◌==◌, bytes_eq, slice_get}
use Rattle.std.specs.List.{list_any}
use Rattle.std.specs.Ordering.{is_eq}
use Rattle.std.proofs.lemmas.Bool.{false≢true, false_from_ne_true}
use Rattle.std.proofs.lemmas.Slice.Eq.{bytes_eq-Decides}
use Rattle.std.proofs.lemmas.Map.Text.{is_eq-slice_cmp}
use Rattle.std.proofs.lemmas.Map.Views.{Contains-from_any}
use Rattle.std.proofs.lemmas.Option.{get_or_from_slice_get}
use Rattle.std.proofs.lemmas.List.Folds.{list_any_more}
use Rattle.std.specs.BTreeMap.{BTreeMap}
use Rattle.volume_layout.specs.Paths.{IsBlockId}
use Rattle.disk_model.specs.Names.{IsBelow, IsInOrder}
use Rattle.volume_layout.specs.declared.block_file.BlockFile.{BlockFile}
use Rattle.volume_layout.specs.BlockFiles.{is_file, name_of, same_file}
use Rattle.pool_survey.specs.declared.naming.Directory.{Directory}
use Rattle.pool_survey.specs.declared.found.FoundFiles.{FoundFiles}
use Rattle.pool_survey.specs.Found.{AreBlocks, found_of}
use Rattle.pool_survey.specs.Directories.{is_in}
use Rattle.pool_survey.specs.Regions.{NoneFound, AreSameOutside, is_found}
use Rattle.pool_survey.proofs.NameLemmas.{called, not_called}

-- ---- names in order

bytes_exact : (x y : List ℕ) → bytes_eq x y ≡ true → x ≡ y
bytes_exact x y same = (bytes_eq-Decides x y).0 same

not_below_itself : (name : List ℕ) → IsBelow name name → ⊥
not_below_itself name below =
    false≢true (sym (ap is_eq below) ∙ is_eq-slice_cmp name name ∙ (bytes_eq-Decides name name).1 refl)

-- a name isn't among those before it
pub not_before : (names : List (List ℕ)) (i : ℕ) (name : List ℕ) → IsInOrder names → i < length names → slice_get names i ≡ Some name →
    list_any (bytes_eq name) (take i names) ≡ false
not_before names i name order within at = false_from_ne_true _ (λ any.
    let has = Contains-from_any bytes_exact name (take i names) any in
    let early : has.0 < i = has_below has.1 in
    let one : get_or names has.0 name ≡ name = sym (get_or-take i names has.0 name early) ∙ has.2 in
    let two : get_or names i name ≡ name = get_or_from_slice_get names i name name at in
    not_below_itself name (subst (λ n. IsBelow n name) one (subst (IsBelow (get_or names has.0 name)) two (order has.0 i name early within))))
  where
    has_below : {k : ℕ} → k < length (take i names) → k < i
    has_below {k} below = (let shorter : length (take i names) ≡ i = length-take-le i names (omega (arith, within)) in omega (arith, below, shorter))

-- ---- the steps of the loop

-- what was found of the files of a directory is what the first names name
abbrev pub AreListed : Directory → ℕ → List (List ℕ) → BTreeMap ℕ FoundFiles → Type 0
AreListed dir i names blocks = (id : ℕ) → IsBlockId id → (file : BlockFile) → IsTrue (is_file file) → IsTrue (is_in dir id file) →
    is_found (found_of blocks id) file ≡ list_any (bytes_eq (name_of id file)) (take i names)

pub none_listed : (dir : Directory) (names : List (List ℕ)) (blocks : BTreeMap ℕ FoundFiles) → NoneFound (is_in dir) blocks → AreListed dir 0 names blocks
none_listed dir names blocks none id valid file is in' = none id valid file is in'

-- after the first names: the blocks, what was found in the directory, and what was found elsewhere
pub record Kept (dir : Directory) (i : ℕ) (names : List (List ℕ)) (first blocks : BTreeMap ℕ FoundFiles) : Type 0 where
  pub are : AreBlocks blocks
  pub listed : AreListed dir i names blocks
  pub others : AreSameOutside (is_in dir) first blocks

or_absent : (b c : Bool) → c ≡ false → (b || c) ≡ b
or_absent true c none = refl
or_absent false c none = none

module _ (dir : Directory) (names : List (List ℕ)) (i : ℕ) (within : i < length names) (name : List ℕ) (at : slice_get names i ≡ Some name)
    (before now : BTreeMap ℕ FoundFiles) (listed : AreListed dir i names before) where
  one_more : (test : List ℕ → Bool) → list_any test (take (i + 1) names) ≡ (list_any test (take i names) || test name)
  one_more test = list_any_more test names i name within ∙ ap (λ n. list_any test (take i names) || test n) (get_or_from_slice_get names i name name at)

  -- a name that names no file of the directory
  pub skipped : ((id : ℕ) → IsBlockId id → (file : BlockFile) → IsTrue (is_file file) → IsTrue (is_in dir id file) → name ≢ name_of id file) →
      AreListed dir (i + 1) names before
  skipped other id valid file is in' =
      listed id valid file is in'
      ∙ sym (one_more (bytes_eq (name_of id file))
      ∙ or_absent _ _ (false_from_ne_true _ (λ same. other id valid file is in' (sym (bytes_exact _ _ same)))))

  module _ (id : ℕ) (file : BlockFile) (valid : IsBlockId id) (is : IsTrue (is_file file)) (in' : IsTrue (is_in dir id file)) (names_it : name ≡ name_of id file) where
    -- a name that names one, which wasn't found before
    pub fresh : IsInOrder names → IsFalse (is_found (found_of before id) file)
    fresh order =
        listed id valid file is in'
        ∙ ap (λ n. list_any (bytes_eq n) (take i names)) (sym names_it) ∙ not_before names i name order within at

    module _ (added : (other : ℕ) (kind : BlockFile) → is_found (found_of now other) kind ≡ (is_found (found_of before other) kind || ((other == id) && same_file kind file))) where
      pub listed_more : AreListed dir (i + 1) names now
      listed_more other other_valid kind kind_is kind_in =
          added other kind
          ∙ ap (λ b. b || ((other == id) && same_file kind file)) (listed other other_valid kind kind_is kind_in)
          ∙ ap (λ b. list_any (bytes_eq (name_of other kind)) (take i names) || b) (sym (called dir id file valid is in' other kind other_valid kind_is kind_in))
          ∙ ap (λ n. list_any (bytes_eq (name_of other kind)) (take i names) || bytes_eq (name_of other kind) n) (sym names_it)
          ∙ sym (one_more (bytes_eq (name_of other kind)))

      pub same_outside : (first : BTreeMap ℕ FoundFiles) → AreSameOutside (is_in dir) first before → AreSameOutside (is_in dir) first now
      same_outside first same other other_valid kind kind_is kind_out =
          added other kind ∙ or_absent _ _ (not_called dir id file in' other kind kind_out) ∙ same other other_valid kind kind_is kind_out
