-- One more file that was found.
use Rattle.std.proofs.Common.{◌≡◌, ◌≢◌, ℕ, Bool, true, false, List, [], inl, inr, Option, None, Some, refl, ap, sym, ◌∙◌, subst, arith}
use Rattle.std.specs.Prelude.{◌&&◌, ◌||◌, ◌==◌, if◌then◌else◌, IsFalse}
use Rattle.std.proofs.lemmas.Bool.{cases_eq, eq-eqb, ne_eqb, false_from_ne_true}
use Rattle.std.proofs.lemmas.Map.Lookups.{exact_unsigned}
use Rattle.std.proofs.lemmas.Map.Views.{tells_apart}
use Rattle.std.specs.Map.{lookup}
use Rattle.std.specs.Ordering.{nat_cmp}
use Rattle.std.specs.BTreeMap.{BTreeMap, Updates, is_at}
use Rattle.volume_layout.specs.Paths.{IsBlockId}
use Rattle.volume_layout.specs.declared.block_file.BlockFile.{BlockFile}
use Rattle.volume_layout.specs.declared.block_file.BlockFile.TheVariants.{Block, Meta, WritingBlock, WritingMeta, TemporaryBlock, TemporaryMeta}
use Rattle.volume_layout.specs.BlockFiles.{same_file}
use Rattle.pool_survey.specs.declared.found.FoundFiles.{FoundFiles}
use Rattle.pool_survey.specs.Found.{AreStamps, AreBlocks, found_of, metas_of, writing_metas_of}
use Rattle.pool_survey.specs.Regions.{AreFiles, is_found}

-- nothing was found of a block that isn't there
pub none_found : (file : BlockFile) → IsFalse (is_found None file)
none_found Block = refl
none_found (Meta stamp) = refl
none_found WritingBlock = refl
none_found (WritingMeta stamp) = refl
none_found TemporaryBlock = refl
none_found (TemporaryMeta stamp) = refl

-- nor of any block where the map has no entries
pub none_left : (found : BTreeMap ℕ FoundFiles) → found.entries ≡ [] → (id : ℕ) → found_of found id ≡ None
none_left found empty id = ap (λ (entries : List (ℕ × FoundFiles)). lookup (is_at (nat_cmp id)) entries) empty

pub no_stamps : AreStamps []
no_stamps = record { in_range = λ k d below. absurd (omega (arith, below)); once = λ i j d early within. absurd (omega (arith, within)) }

or_false : (b : Bool) → (b || false) ≡ b
or_false true = refl
or_false false = refl

-- what was found of a block is now this
abbrev pub Puts : BTreeMap ℕ FoundFiles → BTreeMap ℕ FoundFiles → ℕ → FoundFiles → Type 0
Puts before now id files = (other : ℕ) → found_of now other ≡ (if other == id then Some files else found_of before other)

-- an insertion at the key
pub puts_at : (before now : BTreeMap ℕ FoundFiles) (key id : ℕ) (files : FoundFiles) → key ≡ id → Updates nat_cmp before now key (Some files) → Puts before now id files
puts_at before now key id files same updates other = elim (cases_eq other id) [
  | inl here ↦ ap (found_of now) (here ∙ sym same) ∙ updates.1 ∙ sym (rw (eq-eqb other id here) refl)
  | inr apart ↦
      updates.2 other (false_from_ne_true (is_at (nat_cmp key) other) (λ at. apart (sym (tells_apart exact_unsigned key other at) ∙ same)))
      ∙ sym (rw (ne_eqb other id apart) refl)
]

module _ (before now : BTreeMap ℕ FoundFiles) (id : ℕ) (files : FoundFiles) (puts : Puts before now id files) where
  here : (other : ℕ) → other ≡ id → found_of now other ≡ Some files
  here other same = puts other ∙ rw (eq-eqb other id same) refl

  elsewhere : (other : ℕ) → other ≢ id → found_of now other ≡ found_of before other
  elsewhere other apart = puts other ∙ rw (ne_eqb other id apart) refl

  pub added : (file : BlockFile) → ((other : BlockFile) → is_found (Some files) other ≡ (is_found (found_of before id) other || same_file other file)) →
      (other : ℕ) (name : BlockFile) → is_found (found_of now other) name ≡ (is_found (found_of before other) name || ((other == id) && same_file name file))
  added file adds other name = elim (cases_eq other id) [
    | inl same ↦
        ap (λ found. is_found found name) (here other same) ∙ adds name
        ∙ ap (λ n. is_found (found_of before n) name || same_file name file) (sym same)
        ∙ ap (λ b. is_found (found_of before other) name || (b && same_file name file)) (sym (eq-eqb other id same))
    | inr apart ↦
        ap (λ found. is_found found name) (elsewhere other apart)
        ∙ sym (or_false (is_found (found_of before other) name))
        ∙ ap (λ b. is_found (found_of before other) name || (b && same_file name file)) (sym (ne_eqb other id apart))
  ]

  pub blocks_stay : AreBlocks before → IsBlockId id → AreFiles (Some files) → AreBlocks now
  blocks_stay are valid found = record {
    ids = λ other x is. elim (cases_eq other id) [
      | inl same ↦ subst IsBlockId (sym same) valid
      | inr apart ↦ are.ids other x (sym (elsewhere other apart) ∙ is)
    ];
    metas = λ other. elim (cases_eq other id) [
      | inl same ↦ subst (λ f. AreStamps (metas_of f)) (sym (here other same)) found.metas
      | inr apart ↦ subst (λ f. AreStamps (metas_of f)) (sym (elsewhere other apart)) (are.metas other)
    ];
    writing_metas = λ other. elim (cases_eq other id) [
      | inl same ↦ subst (λ f. AreStamps (writing_metas_of f)) (sym (here other same)) found.writing_metas
      | inr apart ↦ subst (λ f. AreStamps (writing_metas_of f)) (sym (elsewhere other apart)) (are.writing_metas other)
    ];
  }

-- what blocks have of one of them
pub files_at : (blocks : BTreeMap ℕ FoundFiles) (id : ℕ) (found : Option FoundFiles) → found_of blocks id ≡ found → AreBlocks blocks → AreFiles found
files_at blocks id found is are = record {
  metas = subst (λ f. AreStamps (metas_of f)) is (are.metas id);
  writing_metas = subst (λ f. AreStamps (writing_metas_of f)) is (are.writing_metas id);
}
