-- The books of a block that waits, by the files that stand of it in a world that was surveyed.
use Rattle.std.proofs.Common.{◌≡◌, ◌≤◌, inl, inr, ℕ, Bool, true, false, List, [], ◌∷◌, ◌++◌, Option, Some, Contains, length, map, if◌then◌else◌, IsTrue, refl, ap, sym, ◌∙◌, subst}
use Rattle.std.specs.Prelude.{AllPairs, ◌||◌, ◌<◌}
use Rattle.std.proofs.lemmas.Bool.{false≢true, or_cases}
use Rattle.std.proofs.lemmas.List.Elements.{All-contains}
use Rattle.std.proofs.lemmas.Option.{same_Some}
use Rattle.disk_model.specs.Worlds.{World, Holds}
use Rattle.disk_model.specs.Told.{IsWorldOf}
use Rattle.volume_layout.specs.Paths.{rbw_block, block_path}
use Rattle.volume_layout.specs.declared.block_file.BlockFile.{BlockFile}
use Rattle.volume_layout.specs.declared.block_file.BlockFile.TheVariants.{Block, WritingBlock, WritingMeta}
use Rattle.volume_layout.specs.BlockFiles.{path_of, is_file}
use Rattle.map_model.specs.Cells.{Cell, absent, final, growing, unsure, waiting}
use Rattle.map_model.specs.Slots.{is_standing, View, view_of}
use Rattle.map_model.specs.Stands.{Leftover, BlockBooks}
use Rattle.map_model.proofs.Bridge.{view_holds, view_absent}
use Rattle.pool_survey.specs.declared.found.FoundFiles.{FoundFiles}
use Rattle.pool_survey.specs.declared.places.FoundOn.{FoundOn}
use Rattle.pool_survey.specs.Found.{has_block, has_writing, writing_metas_of}
use Rattle.pool_survey.specs.Regions.{AreFiles}
use Rattle.pool_survey.specs.Places.{found_on}
use Rattle.pool_open.specs.Plan.{held_file, kept_on, leaves_block}
use Rattle.pool_open.specs.Found.{IsSizeOf, IsHeldOn, AreHeld, IsWaitingEntry, first_path, writing_stamps}
use Rattle.pool_open.specs.Waiting.{HasLength, leaves_file, kept_of, WaitOn, WaitOnEach, IsGreatestWritten, IsLowest, first_file, WaitsAs}
use Rattle.pool_open.proofs.Lists.{flat_contains, map_contains}
use Rattle.pool_open.proofs.Placed.{first_in, later_in, flat_from, on_there, found_there, first_left, first_lowest, vols_rise}
use Rattle.pool_open.proofs.Planned.{found_some}
use Rattle.pool_open.proofs.Blocks.{IsShown}
use Rattle.pool_open.proofs.Made.{cell_of, BooksSay, says_final, says_waiting, says_nothing}

-- the files that were found are those that stand
kept_same : (view : View) (on : FoundOn) (stamp block_len writing_len : ℕ) → on.files.block ≡ is_standing (view on.vol Block) → on.files.writing ≡ is_standing (view on.vol WritingBlock) →
    kept_on stamp block_len writing_len on ≡ kept_of view on.vol stamp block_len writing_len on.files.writing_metas.items
kept_same view on stamp block_len writing_len block writing = λ i.
    (if block i then held_file on.vol stamp block_len Block ∷ [] else [])
    ++ (if writing i then held_file on.vol stamp writing_len WritingBlock ∷ map (λ meta. held_file on.vol stamp 0 (WritingMeta meta)) on.files.writing_metas.items else [])

same_truth : (a b : Bool) → (a ≡ true → b ≡ true) → (b ≡ true → a ≡ true) → a ≡ b
same_truth true b to from = sym (to refl)
same_truth false true to from = absurd (false≢true (from refl))
same_truth false false to from = refl

-- the cell waits
abbrev waits_cell : Cell → Bool
waits_cell absent = false
waits_cell (final replica) = false
waits_cell (growing stamp base bytes left) = false
waits_cell (unsure x y cut) = false
waits_cell waiting = true

module _ (was : World) (id : ℕ) (told : Option (List World)) (is : IsWorldOf told was) (places : List FoundOn) (rise : AllPairs (λ on other. on.vol < other.vol) places)
    (files_are : (on : FoundOn) → Contains places on → AreFiles (Some on.files)) (shown : IsShown (found_on places) (view_of was id)) where
  -- the size that was told of a settled file is its length
  file_length : (vol : ℕ) (f : BlockFile) (len : ℕ) → IsTrue (is_file f) → IsSizeOf told vol (path_of id f) len → HasLength (view_of was id vol f) len
  file_length vol f len file size content holds_it =
      let standing : IsTrue (is_standing (view_of was id vol f)) = ap is_standing holds_it in
      let held : Holds vol (path_of id f) (Some content) was = view_holds was id vol f file content holds_it in
      elim (size was is (λ absent. false≢true (sym (ap is_standing (view_absent was id vol f file absent)) ∙ standing))) [
        | inl sized ↦ sym sized.2 ∙ ap length (same_Some _ _ (sym sized.1 ∙ held.file))
        | inr drafts ↦ absurd (false≢true (sym held.no_draft ∙ drafts))
      ]

  at_place : (on : FoundOn) → Contains places on → found_on places on.vol ≡ Some on.files
  at_place on has = found_there places rise on has

  block_is : (on : FoundOn) → Contains places on → on.files.block ≡ is_standing (view_of was id on.vol Block)
  block_is on has = same_truth on.files.block (is_standing (view_of was id on.vol Block))
      (λ there. shown.stands on.vol Block (ap has_block (at_place on has) ∙ there))
      (λ there. sym (ap has_block (at_place on has)) ∙ shown.stood on.vol Block refl there)

  writing_is : (on : FoundOn) → Contains places on → on.files.writing ≡ is_standing (view_of was id on.vol WritingBlock)
  writing_is on has = same_truth on.files.writing (is_standing (view_of was id on.vol WritingBlock))
      (λ there. shown.stands on.vol WritingBlock (ap has_writing (at_place on has) ∙ there))
      (λ there. sym (ap has_writing (at_place on has)) ∙ shown.stood on.vol WritingBlock refl there)

  meta_stands : (on : FoundOn) → Contains places on → (other : ℕ) → Contains on.files.writing_metas.items other → IsTrue (is_standing (view_of was id on.vol (WritingMeta other)))
  meta_stands on has other there = shown.stands on.vol (WritingMeta other) (subst (λ (o : Option FoundFiles). Contains (writing_metas_of o) other) (sym (at_place on has)) there)

  meta_there : (on : FoundOn) → Contains places on → (other : ℕ) → IsTrue (is_standing (view_of was id on.vol (WritingMeta other))) → Contains on.files.writing_metas.items other
  meta_there on has other there = subst (λ (o : Option FoundFiles). Contains (writing_metas_of o) other) (at_place on has) (shown.stood on.vol (WritingMeta other) refl there)

  -- the files on one volume
  length_where : (vol : ℕ) (f : BlockFile) (len : ℕ) (b : Bool) → IsTrue (is_file f) → b ≡ is_standing (view_of was id vol f) → (IsTrue b → IsSizeOf told vol (path_of id f) len) →
      HasLength (view_of was id vol f) len
  length_where vol f len b file stands size content holds_it = file_length vol f len file (size (stands ∙ ap is_standing holds_it)) content holds_it

  waits_on : (stamp : ℕ) (on : FoundOn) → Contains places on → (left : List Leftover) → IsHeldOn told id stamp on left → WaitOn (view_of was id) stamp on.vol left
  waits_on stamp on has left held = record {
    block_len = held.block_len;
    writing_len = held.writing_len;
    metas = on.files.writing_metas.items;
    is = held.is ∙ kept_same (view_of was id) on stamp held.block_len held.writing_len (block_is on has) (writing_is on has);
    metas_are = λ other. (meta_stands on has other, meta_there on has other);
    once = (files_are on has).writing_metas.once;
    block = length_where on.vol Block held.block_len on.files.block refl (block_is on has) held.block;
    writing = length_where on.vol WritingBlock held.writing_len on.files.writing refl (writing_is on has) held.writing;
  }

  waits_each : (stamp : ℕ) (some : List FoundOn) (left : List Leftover) → ((on : FoundOn) → Contains some on → Contains places on) → AreHeld told id stamp some left →
      WaitOnEach (view_of was id) stamp (map (λ (on : FoundOn). on.vol) some) left
  waits_each stamp [] left within held = held
  waits_each stamp (on ∷ more) left within (one, rest, split, here, later) =
      (one, rest, split, waits_on stamp on (within on (first_in on more)) one here, waits_each stamp more rest (λ o has. within o (later_in on more o has)) later)

  leaves_same : (on : FoundOn) → Contains places on → leaves_block on ≡ leaves_file (view_of was id) on.vol
  leaves_same on has = λ i. block_is on has i || writing_is on has i

  -- a block file that stands was found
  leaving : (vol : ℕ) → IsTrue (leaves_file (view_of was id) vol) → (on : FoundOn) × Contains places on × (on.vol ≡ vol) × (leaves_block on ≡ true)
  leaving vol there =
      let some : (files : FoundFiles) × (found_on places vol ≡ Some files) = elim (or_cases (is_standing (view_of was id vol Block)) (is_standing (view_of was id vol WritingBlock)) there) [
        | inl block ↦ found_some (found_on places vol) Block (shown.stood vol Block refl block)
        | inr writing ↦ found_some (found_on places vol) WritingBlock (shown.stood vol WritingBlock refl writing)
      ] in
      let on = on_there places vol some.0 some.1 in
      (on.0, on.1, on.2, leaves_same on.0 on.1 ∙ subst (λ v. IsTrue (leaves_file (view_of was id) v)) (sym on.2) there)

  greatest_written : (books : BlockBooks) (says : IsWaitingEntry told id places books) → IsGreatestWritten (view_of was id) says.stamp
  greatest_written books says = record {
    in_range = says.greatest.in_range;
    above = λ vol other there.
        let some = found_some (found_on places vol) (WritingMeta other) (shown.stood vol (WritingMeta other) refl there) in
        let on = on_there places vol some.0 some.1 in
        All-contains (λ s. s ≤ says.stamp) (writing_stamps places) other says.greatest.above
        (flat_contains (λ (o : FoundOn). o.files.writing_metas.items) places on.0 other on.1
        (meta_there on.0 on.1 other (subst (λ v. IsTrue (is_standing (view_of was id v (WritingMeta other)))) (sym on.2) there)));
    one_of = elim says.greatest.one_of [
      | inl has ↦
          let on = flat_from (λ (o : FoundOn). o.files.writing_metas.items) places says.stamp has in
          inl (on.0.vol, meta_stands on.0 on.1 says.stamp on.2)
      | inr none ↦ inr none
    ];
  }

  -- the length of the first block file
  first_length : (on : FoundOn) → Contains places on → (len : ℕ) → IsSizeOf told on.vol (first_path id on.files) len → HasLength (view_of was id on.vol (first_file (view_of was id) on.vol)) len
  first_length on has len size = by on.files.writing refl
    where
      by : (b : Bool) → on.files.writing ≡ b → HasLength (view_of was id on.vol (first_file (view_of was id) on.vol)) len
      by true there =
          let stands : is_standing (view_of was id on.vol WritingBlock) ≡ true = sym (writing_is on has) ∙ there in
          subst (λ b. HasLength (view_of was id on.vol (if b then WritingBlock else Block)) len) (sym stands)
          (file_length on.vol WritingBlock len refl (subst (λ b. IsSizeOf told on.vol (if b then rbw_block id else block_path id) len) there size))
      by false none =
          let stands : is_standing (view_of was id on.vol WritingBlock) ≡ false = sym (writing_is on has) ∙ none in
          subst (λ b. HasLength (view_of was id on.vol (if b then WritingBlock else Block)) len) (sym stands)
          (file_length on.vol Block len refl (subst (λ b. IsSizeOf told on.vol (if b then rbw_block id else block_path id) len) none size))

  waits_as : (books : BlockBooks) → IsWaitingEntry told id places books → WaitsAs (view_of was id) books
  waits_as books says =
      let first : FoundOn = says.first.first in
      let left = first_left places first says.first.is_first in
      record {
        vol = says.vol;
        rev = says.rev;
        stamp = says.stamp;
        len = says.len;
        left = says.left;
        vols = map (λ (on : FoundOn). on.vol) places;
        is = says.is;
        greatest = greatest_written books says;
        lowest = subst (λ v. IsLowest (view_of was id) v) says.first.vol_is (record {
          leaves = sym (leaves_same first left.0) ∙ left.1;
          lowest = λ other there.
              let on = leaving other there in
              subst (λ v. first.vol ≤ v) on.2 (first_lowest places first rise says.first.is_first on.0 on.1 on.3);
        });
        len_is = subst (λ v. HasLength (view_of was id v (first_file (view_of was id) v)) says.len) says.first.vol_is
            (first_length first left.0 says.len (subst (λ v. IsSizeOf told v (first_path id first.files) says.len) (sym says.first.vol_is) says.first.size));
        rise = vols_rise places rise;
        all = λ other there.
            let on = leaving other there in
            subst (λ v. Contains (map (λ (o : FoundOn). o.vol) places) v) on.2 (map_contains (λ (o : FoundOn). o.vol) places on.0 on.1);
        held = waits_each says.stamp places says.left (λ on has. has) says.held;
      }

  -- A BLOCK WHOSE CELL WAITS HAS SUCH BOOKS
  pub found_waits : (kept : Option ℕ) (books : BlockBooks) (bytes : List ℕ) → BooksSay told id places kept (view_of was id) books → cell_of bytes books.entry ≡ waiting → WaitsAs (view_of was id) books
  found_waits kept books bytes (says_final own rev stamp len at keeps length_is entry) waits =
      (let bad = sym (ap (λ (b : BlockBooks). cell_of bytes b.entry) entry) ∙ waits in absurd (false≢true (ap waits_cell bad)))
  found_waits kept books bytes (says_waiting at none leaves says) waits = waits_as books says
  found_waits kept books bytes (says_nothing at none leaves entry) waits =
      (let bad = sym (ap (λ (b : BlockBooks). cell_of bytes b.entry) entry) ∙ waits in absurd (false≢true (ap waits_cell bad)))
