-- The table without the metas that don't count is what a survey finds when they were cleared.
use Rattle.std.proofs.Common.{◌≡◌, ◌<◌, inl, inr, ℕ, zero, suc, Bool, true, false, List, [], ◌∷◌, Option, Some, None, Contains, get_or, length, refl, ap, sym, ◌∙◌, subst, arith}
use Rattle.std.specs.Prelude.{◌==◌, if◌then◌else◌}
use Rattle.pool_survey.specs.declared.found.FoundFiles.{FoundFiles}
use Rattle.pool_survey.specs.declared.places.FoundOn.{FoundOn}
use Rattle.pool_survey.specs.Found.{has_block, metas_of}
use Rattle.pool_survey.specs.Places.{found_on}
use Rattle.pool_survey.specs.Found.{AreStamps}
use Rattle.pool_survey.specs.Places.{ArePlaces, ArePoolBlocks, HaveBlockIds, places_of}
use Rattle.pool_survey.specs.Regions.{AreFiles}
use Rattle.pool_survey.specs.declared.surveying_pool.PoolSurvey.{PoolSurvey}
use Rattle.volume_layout.specs.Paths.{IsStamp}
use Rattle.std.specs.Prelude.{◌≤◌}
use Rattle.std.proofs.lemmas.Bool.{cases_Bool}
use Rattle.std.proofs.lemmas.Option.{none-some}
use Rattle.std.proofs.lemmas.List.Elements.{All-nil, All-cons, All-contains}
use Rattle.pool_open.specs.Surplus.{counted, kept_stamp, left_stamps, IsBroughtDown, AreBroughtDown, IsTableBroughtDown}
use Rattle.pool_open.proofs.Counted.{kept_keeps, gate_stands}
use Rattle.pool_open.proofs.Bringing.{brought_length}

-- what was found on a volume, and what is left of it in the table
pub record IsDown (was now : FoundFiles) : Type 0 where
  pub block : now.block ≡ was.block
  pub metas : now.metas.items ≡ left_stamps (counted was) was.metas.items
  pub writing : now.writing ≡ was.writing
  pub writing_metas : now.writing_metas.items ≡ was.writing_metas.items

abbrev pub AreDown : (was now : Option FoundFiles) → Type 0
AreDown None None = Unit {0}
AreDown (Some was) (Some now) = IsDown was now
AreDown was now = ⊥

down_if : (b c : Bool) (was now : FoundFiles) (more more' : Option FoundFiles) → c ≡ b → IsDown was now → AreDown more more' →
    AreDown (if b then Some was else more) (if c then Some now else more')
down_if true true was now more more' same here later = here
down_if false false was now more more' same here later = later
down_if true false was now more more' same here later = absurd cc
down_if false true was now more more' same here later = absurd cc

pub found_down : (was now : List FoundOn) → AreBroughtDown was now → (vol : ℕ) → AreDown (found_on was vol) (found_on now vol)
found_down [] [] down vol = tt
found_down [] (left ∷ now) down vol = absurd cc
found_down (on ∷ was) [] down vol = absurd down
found_down (on ∷ was) (left ∷ now) down vol =
    down_if (on.vol == vol) (left.vol == vol) on.files left.files (found_on was vol) (found_on now vol) (ap (λ n. n == vol) down.0.vol)
    (record { block = down.0.block; metas = down.0.metas; writing = down.0.writing; writing_metas = down.0.writing_metas }) (found_down was now down.1 vol)

-- ---- the table's places are places

-- the stamp that counts was found
pub counted_in : (files : FoundFiles) (kept : ℕ) → counted files ≡ Some kept → Contains files.metas.items kept
counted_in files kept counts = elim (cases_Bool files.block) [
  | inl there ↦
      let of_gate : counted files ≡ kept_stamp files.writing files.metas.items = rw there refl in
      gate_stands (Contains files.metas.items) files.writing kept (kept_keeps files.writing files.metas.items kept (sym of_gate ∙ counts))
  | inr none ↦
      let nothing : counted files ≡ None = rw none refl in
      absurd (none-some kept (sym nothing ∙ counts))
]

stamps_down : (files : FoundFiles) → AreFiles (Some files) → (items : List ℕ) (kept : Option ℕ) → counted files ≡ kept → items ≡ left_stamps kept files.metas.items → AreStamps items
stamps_down files are items None counts is = subst AreStamps (sym is) are.metas
stamps_down files are items (Some kept) counts is = subst AreStamps (sym is) (record {
  in_range = All-cons IsStamp kept [] (All-contains IsStamp files.metas.items kept are.metas.in_range (counted_in files kept counts)) (All-nil IsStamp);
  once = λ i j d below inside. absurd (omega (arith, below, inside));
})

files_down : (was now : FoundOn) → IsBroughtDown was now → AreFiles (Some was.files) → AreFiles (Some now.files)
files_down was now down are = record {
  metas = stamps_down was.files are now.files.metas.items (counted was.files) refl down.metas;
  writing_metas = subst AreStamps (sym down.writing_metas) are.writing_metas;
}

brought_at : (was now : List FoundOn) → AreBroughtDown was now → (k : ℕ) (d : FoundOn) → k < length was → IsBroughtDown (get_or was k d) (get_or now k d)
brought_at [] now down k d below = absurd (omega (arith, below))
brought_at (on ∷ was) [] down k d below = absurd down
brought_at (on ∷ was) (left ∷ now) down zero d below = down.0
brought_at (on ∷ was) (left ∷ now) down (suc k) d below = brought_at was now down.1 k d (omega (arith, below))

places_down : (volumes : ℕ) (was now : List FoundOn) → AreBroughtDown was now → ArePlaces volumes was → ArePlaces volumes now
places_down volumes was now down are =
    let long = brought_length was now down in
    record {
      rise = λ i j d below inside.
          let one = brought_at was now down i d (omega (arith, below, inside, long)) in
          let other = brought_at was now down j d (omega (arith, inside, long)) in
          let less = are.rise i j d below (omega (arith, inside, long)) in
          omega (arith, less, one.vol, other.vol);
      on_volumes = λ k d inside.
          let one = brought_at was now down k d (omega (arith, inside, long)) in
          let there = are.on_volumes k d (omega (arith, inside, long)) in
          (omega (arith, there.0, one.vol), omega (arith, there.1, one.vol));
      files = λ k d inside.
          files_down (get_or was k d) (get_or now k d) (brought_at was now down k d (omega (arith, inside, long))) (are.files k d (omega (arith, inside, long)));
    }

pub blocks_down : (volumes : ℕ) (survey table : PoolSurvey) → ArePoolBlocks volumes survey.blocks → IsTableBroughtDown survey.blocks table.blocks → HaveBlockIds table.blocks → ArePoolBlocks volumes table.blocks
blocks_down volumes survey table blocks brought ids = record {
  ids = ids;
  places = λ id. places_down volumes (places_of survey.blocks id) (places_of table.blocks id) (brought id) (blocks.places id);
}

-- ---- one meta is left beside a block file

left_few : (gated : Bool) (stamps : List ℕ) → length (left_stamps (kept_stamp gated stamps) stamps) ≤ 1
left_few gated [] = omega arith
left_few gated (stamp ∷ stamps) = omega arith

few_by : (was now : Option FoundFiles) → AreDown was now → has_block now ≡ true → length (metas_of now) ≤ 1
few_by None None down there = omega arith
few_by None (Some now) down there = absurd down
few_by (Some was) None down there = absurd down
few_by (Some was) (Some now) down there =
    let block : was.block ≡ true = sym down.block ∙ there in
    let of_gate : counted was ≡ kept_stamp was.writing was.metas.items = rw block refl in
    subst (λ (items : List ℕ). length items ≤ 1) (sym (down.metas ∙ ap (λ (kept : Option ℕ). left_stamps kept was.metas.items) of_gate)) (left_few was.writing was.metas.items)

pub few_down : (survey table : PoolSurvey) → IsTableBroughtDown survey.blocks table.blocks → (id vol : ℕ) →
    has_block (found_on (places_of table.blocks id) vol) ≡ true → length (metas_of (found_on (places_of table.blocks id) vol)) ≤ 1
few_down survey table brought id vol there =
    few_by (found_on (places_of survey.blocks id) vol) (found_on (places_of table.blocks id) vol) (found_down (places_of survey.blocks id) (places_of table.blocks id) (brought id) vol) there
