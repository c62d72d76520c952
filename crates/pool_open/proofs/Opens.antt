-- An opening, from what its calls gave.
use Rattle.std.proofs.Common.{◌≡◌, ◌≢◌, ◌⊎◌, ◌≤◌, inl, inr, ℕ, List, [], ◌∷◌, Option, None, Some, Contains, length, replicate, refl, ap, sym, ◌∙◌, subst, IsSome}
use Rattle.std.proofs.lemmas.Bool.{false≢true}
use Rattle.std.proofs.lemmas.List.{length-replicate}
use Rattle.std.proofs.lemmas.Option.{none-some, same_Some}
use Rattle.disk_model.specs.Files.{Files}
use Rattle.disk_model.specs.Worlds.{World}
use Rattle.disk_model.specs.Told.{IsWorldOf, InEachWorld, StandsWithin, PicksOne, CanLeave, Leaves}
use Rattle.disk_model.specs.Moments.{AddsOnly}
use Rattle.disk_model.proofs.Laws.{from_done, some_world, only_one, told_list, is_told}
use Rattle.volume_layout.specs.Paths.{IsBlockId}
use Rattle.volume_layout.specs.declared.block_file.BlockFile.TheVariants.{Block, Meta}
use Rattle.map_model.specs.World.{DraftsAside}
use Rattle.map_model.specs.Cells.{Replica, Cells, final, waiting}
use Rattle.map_model.specs.Copies.{Spot, BlockFiles, IsCopy, IsAlone, ReadsAs, OneWhole}
use Rattle.map_model.specs.Openings.{shown_files, MakesCell, ReadsAlike}
use Rattle.map_model.specs.Sound.{Metas, Knowledge, matching, exactly, Fits, HasSoundCopies}
use Rattle.map_model.specs.Slots.{is_standing, view_of, files_in}
use Rattle.map_model.specs.Stands.{EntryState, is_final, is_written, in_doubt, is_waiting, Entry, BlockBooks}
use Rattle.map_model.proofs.Places.{absent_empty}
use Rattle.map_model.proofs.Bridge.{image_files}
use Rattle.pool_state.specs.Stands.{BooksFit, PoolStands}
use Rattle.pool_survey.specs.declared.surveying_pool.PoolSurvey.{PoolSurvey}
use Rattle.pool_survey.specs.Places.{places_of, IsPoolSurveyOf}
use Rattle.pool_survey.specs.Remaining.{Remains}
use Rattle.pool_open.specs.Found.{SaysFound}
use Rattle.pool_open.specs.Clearing.{Clears, AreClear, ComesCleared, LeftCleared}
use Rattle.pool_open.specs.Waiting.{WaitsAs}
use Rattle.pool_open.specs.Outcome.{HasFiles, ReadsBack, KeptOn, Opens}
use Rattle.pool_open.proofs.Shown.{shown_view, world_reads}
use Rattle.pool_open.proofs.Blocks.{slot_bytes, IsShown, Partly, IsMade, reads_on, sound_on, alone_on, alone_left}
use Rattle.pool_open.proofs.Made.{final_vol, final_volume, entry_len, cell_of, opened_by, BooksSay, books_say, keeps_whole, books_fit, is_made, said_len, made_cell, kept_on_volume, meta_here, files_stand}
use Rattle.pool_open.proofs.Waits.{found_waits}
use Rattle.pool_open.proofs.Opened.{IsTable, IsSurveyed, KeepsWhole, plan_of, found_at, files_are, shown, size_here, partly, left}

-- the volume of an entry
abbrev pub entry_vol : Option Entry → ℕ
entry_vol None = 0
entry_vol (Some entry) = entry.vol

-- the bytes of the block file of an entry, where the disks tell one world; else some of that length
abbrev pub bytes_told : Option (List World) → ℕ → Option Entry → List ℕ
bytes_told None id entry = replicate (entry_len entry) 0
bytes_told (Some []) id entry = replicate (entry_len entry) 0
bytes_told (Some (world ∷ worlds)) id entry = slot_bytes (view_of world id (entry_vol entry) Block)

-- those of a meta file beside it
abbrev pub meta_told : Option (List World) → ℕ → Option Entry → ℕ → List ℕ
meta_told None id entry stamp = []
meta_told (Some []) id entry stamp = []
meta_told (Some (world ∷ worlds)) id entry stamp = slot_bytes (view_of world id (entry_vol entry) (Meta stamp))

final_at : (state : EntryState) (vol own : ℕ) → final_vol state vol ≡ Some own → vol ≡ own
final_at is_final vol own is = same_Some vol own is
final_at (is_written base block_number meta_number) vol own is = absurd (none-some own is)
final_at (in_doubt base) vol own is = absurd (none-some own is)
final_at is_waiting vol own is = absurd (none-some own is)

entry_at_volume : (entry : Option Entry) (own : ℕ) → final_volume entry ≡ Some own → entry_vol entry ≡ own
entry_at_volume None own is = absurd (none-some own is)
entry_at_volume (Some entry) own is = final_at entry.state entry.vol own is

-- What the calls of an opening gave that was done.
pub record IsOpening (kept : ℕ → Option ℕ) (survey : PoolSurvey) (before first second after : Option (List World)) (volumes : ℕ) (books : ℕ → BlockBooks) : Type 0 where
  pub some_volume : 1 ≤ volumes
  pub call : PicksOne (λ world. IsPoolSurveyOf world volumes survey) (λ w. w) before first
  pub table : IsTable volumes survey
  pub aside : InEachWorld before DraftsAside
  pub remains : Remains first second
  pub honest : IsSome first → IsSome second
  pub some : second ≢ Some []
  pub within : StandsWithin volumes second
  pub says : (id : ℕ) → SaysFound second id (places_of survey.blocks id) (books id)
  pub kept_is : (id : ℕ) → kept id ≡ final_volume (books id).entry
  pub comes : InEachWorld after (ComesCleared (plan_of kept survey) second)
  pub clear : InEachWorld after (AreClear (plan_of kept survey))

module _ (kept : ℕ → Option ℕ) (survey : PoolSurvey) (before first second after : Option (List World)) (volumes : ℕ) (books : ℕ → BlockBooks)
    (opening : IsOpening kept survey before first second after volumes books) where
  picks : (was : World) → IsWorldOf second was → (from : World) × IsWorldOf before from × IsPoolSurveyOf from volumes survey × (was ≡ from)
  picks was is = from_done opening.call was (opening.remains was is)

  pub in_before : (was : World) → IsWorldOf second was → IsWorldOf before was
  in_before was is = let from = picks was is in subst (IsWorldOf before) (sym from.3) from.1

  pub surveyed : (was : World) → IsWorldOf second was → IsSurveyed volumes survey was
  surveyed was is =
      let from = picks was is in
      record {
        exact = subst (λ w. IsPoolSurveyOf w volumes survey) (sym from.3) from.2;
        aside = opening.aside was (in_before was is);
        within = λ vol path there. opening.within was is vol path (λ absent. false≢true (sym (ap is_standing (absent_empty was vol path absent)) ∙ there));
      }

  -- the disks told this world alone after the survey
  pub first_is : (was : World) → IsWorldOf first was → first ≡ Some (was ∷ [])
  first_is was is =
      let told = told_list before (opening.call.honest.1 (is_told first is.0 is.1)) in
      let picked = opening.call.picked told.0 told.1 in
      let same : picked.0 ≡ was = only_one picked.0 was (subst (λ (worlds : List World). Contains worlds was) (same_Some _ _ (sym is.1 ∙ picked.3)) is.2) in
      picked.3 ∙ ap (λ (w : World). Some (w ∷ [])) same

  one_world : (was other : World) → IsWorldOf first was → IsWorldOf first other → was ≡ other
  one_world was other is other_is =
      only_one was other (subst (λ (worlds : List World). Contains worlds other) (same_Some _ _ (sym other_is.1 ∙ first_is was is)) other_is.2)

  pub some_told : IsSome first → (was : World) × IsWorldOf second was
  some_told tells = some_world second opening.some (opening.honest tells)

  -- the plan spares the kept copies
  whole : KeepsWhole kept survey
  whole id on has own at here none = keeps_whole second id (places_of survey.blocks id) (books id) (opening.table.blocks.places id).rise (opening.says id) on has own
      (sym (opening.kept_is id) ∙ at) here none

  -- the cells
  abbrev pub cell_bytes : ℕ → List ℕ
  cell_bytes id = bytes_told first id (books id).entry

  abbrev pub cells_are : Cells
  cells_are id = cell_of (cell_bytes id) (books id).entry

  -- the meta files
  abbrev pub metas_are : Metas
  metas_are id stamp = meta_told first id (books id).entry stamp

  -- ---- one world that was surveyed

  module _ (was : World) (is : IsWorldOf second was) where
    bytes_here : (id own : ℕ) → final_volume (books id).entry ≡ Some own → cell_bytes id ≡ slot_bytes (view_of was id own Block)
    bytes_here id own volume = ap (λ (told : Option (List World)). bytes_told told id (books id).entry) (first_is was (opening.remains was is))
        ∙ ap (λ v. slot_bytes (view_of was id v Block)) (entry_at_volume (books id).entry own volume)

    metas_here : (id own : ℕ) → final_volume (books id).entry ≡ Some own → (stamp : ℕ) → metas_are id stamp ≡ slot_bytes (view_of was id own (Meta stamp))
    metas_here id own volume stamp = ap (λ (told : Option (List World)). meta_told told id (books id).entry stamp) (first_is was (opening.remains was is))
        ∙ ap (λ v. slot_bytes (view_of was id v (Meta stamp))) (entry_at_volume (books id).entry own volume)

    module _ (id : ℕ) (valid : IsBlockId id) where
      shown_here : IsShown (found_at survey id) (view_of was id)
      shown_here = shown volumes survey opening.table was (surveyed was is) id valid

      pub say : BooksSay second id (places_of survey.blocks id) (kept id) (view_of was id) (books id)
      say = books_say second id (places_of survey.blocks id) (opening.table.blocks.places id).rise (view_of was id)
          (size_here volumes survey opening.table was (surveyed was is) id valid second is)
          (kept id) (books id) (opening.kept_is id) (opening.says id)

      pub made : IsMade (kept id) (found_at survey id) (view_of was id)
      made = is_made second id (places_of survey.blocks id) (opening.table.blocks.places id).rise (kept id) (view_of was id) (books id) say

      -- an image that clearing leaves
      module _ (now : World) (image : Files) (clears : Clears (plan_of kept survey) was now) (leaves : Leaves now image) where
        partly_here : Partly (kept id) (found_at survey id) (view_of was id) (view_of now id)
        partly_here = partly volumes survey opening.table was (surveyed was is) id valid kept whole now clears

        -- reads as the world did
        cleared_reads : (replica : Option Replica) → ReadsAs (shown_files was id) replica → ReadsAs (files_in (view_of now id)) replica
        cleared_reads replica reads = reads_on (kept id) (found_at survey id) (view_of was id) (view_of now id) shown_here partly_here made replica
            (subst (λ (files : BlockFiles). ReadsAs files replica) (shown_view was id (surveyed was is).aside) reads)

        -- is sound where the world is
        cleared_sound : (M : List ℕ → Replica → Type 0) → HasSoundCopies M (shown_files was id) → HasSoundCopies M (files_in (view_of now id))
        cleared_sound M sound = sound_on (kept id) (found_at survey id) (view_of was id) (view_of now id) shown_here partly_here M made
            (subst (λ (files : BlockFiles). HasSoundCopies M files) (shown_view was id (surveyed was is).aside) sound)

        -- and has one whole copy where the world has
        cleared_whole : ((spot : Spot) (replica : Replica) → IsCopy (shown_files was id) spot replica → IsAlone (shown_files was id) spot) →
            (spot : Spot) (replica : Replica) → IsCopy (files_in (view_of now id)) spot replica → IsAlone (files_in (view_of now id)) spot
        cleared_whole alone = alone_on (kept id) (found_at survey id) (view_of was id) (view_of now id) shown_here partly_here made
            (subst (λ (files : BlockFiles). (spot : Spot) (replica : Replica) → IsCopy files spot replica → IsAlone files spot) (shown_view was id (surveyed was is).aside) alone)

        -- where all was cleared, it has one in any case
        all_whole : AreClear (plan_of kept survey) now → (spot : Spot) (replica : Replica) → IsCopy (files_in (view_of now id)) spot replica → IsAlone (files_in (view_of now id)) spot
        all_whole clear = alone_left (kept id) (found_at survey id) (view_of was id) (view_of now id) shown_here partly_here
            (left volumes survey opening.table was (surveyed was is) id valid kept whole now clears clear) made

    pub cleared_reads_back : (now : World) (image : Files) → Clears (plan_of kept survey) was now → Leaves now image → ReadsBack was image
    cleared_reads_back now image clears leaves =
        let aside_now : DraftsAside now = clears.aside (surveyed was is).aside in
        record {
          alike = λ id valid replica reads.
              subst (λ (files : BlockFiles). ReadsAs files replica) (sym (image_files now image id aside_now leaves)) (cleared_reads id valid now image clears leaves replica reads);
          sound = λ matched id valid.
              subst (λ (files : BlockFiles). HasSoundCopies (Fits matching id) files) (sym (image_files now image id aside_now leaves))
              (cleared_sound id valid now image clears leaves (Fits matching id) (matched id valid));
          whole = λ own id valid.
              subst (λ (files : BlockFiles). (spot : Spot) (replica : Replica) → IsCopy files spot replica → IsAlone files spot) (sym (image_files now image id aside_now leaves))
              (cleared_whole id valid now image clears leaves (own id valid));
        }

    pub all_cleared_whole : (now : World) (image : Files) → Clears (plan_of kept survey) was now → AreClear (plan_of kept survey) now → Leaves now image → OneWhole image
    all_cleared_whole now image clears clear leaves id valid =
        subst (λ (files : BlockFiles). (spot : Spot) (replica : Replica) → IsCopy files spot replica → IsAlone files spot)
        (sym (image_files now image id (clears.aside (surveyed was is).aside) leaves)) (all_whole id valid now image clears leaves clear)

    -- ---- what the cells are in it

    len_here : (id : ℕ) → IsBlockId id → (own : ℕ) → final_volume (books id).entry ≡ Some own → entry_len (books id).entry ≡ length (cell_bytes id)
    len_here id valid own volume =
        said_len second id (places_of survey.blocks id) (opening.table.blocks.places id).rise (kept id) (view_of was id) (books id) (say id valid) own volume
        ∙ sym (ap length (bytes_here id own volume))

    made_here : (id : ℕ) → IsBlockId id → MakesCell (shown_files was id) (cells_are id)
    made_here id valid = subst (λ (files : BlockFiles). MakesCell files (cells_are id)) (sym (shown_view was id (surveyed was is).aside))
        (made_cell second id (places_of survey.blocks id) (opening.table.blocks.places id).rise (kept id) (view_of was id) (books id) (shown_here id valid) (cell_bytes id) (bytes_here id) (say id valid))

    placed_here : (id : ℕ) → IsBlockId id → (replica : Replica) → cells_are id ≡ final replica → KeptOn (shown_files was id) (books id) replica
    placed_here id valid replica cell = subst (λ (files : BlockFiles). KeptOn files (books id) replica) (sym (shown_view was id (surveyed was is).aside))
        (kept_on_volume second id (places_of survey.blocks id) (opening.table.blocks.places id).rise (kept id) (view_of was id) (books id) (shown_here id valid) (cell_bytes id) (bytes_here id) (say id valid) replica cell)

    files_here : HasFiles (exactly metas_are) was
    files_here id valid = subst (λ (files : BlockFiles). HasSoundCopies (Fits (exactly metas_are) id) files) (sym (shown_view was id (surveyed was is).aside))
        (meta_here second id (places_of survey.blocks id) (opening.table.blocks.places id).rise (kept id) (view_of was id) (books id) (shown_here id valid) (cell_bytes id) (bytes_here id)
        (say id valid) (metas_are id) (metas_here id))

    waits_here : (id : ℕ) → IsBlockId id → cells_are id ≡ waiting → WaitsAs (view_of was id) (books id)
    waits_here id valid waits = found_waits was id second is (places_of survey.blocks id) (opening.table.blocks.places id).rise (files_are volumes survey opening.table id) (shown_here id valid)
        (kept id) (books id) (cell_bytes id) (say id valid) waits

  -- ---- the opening

  len_by : (told : Option (List World)) → first ≡ told → (id : ℕ) → IsBlockId id → (own : ℕ) → final_volume (books id).entry ≡ Some own → entry_len (books id).entry ≡ length (cell_bytes id)
  len_by None is id valid own volume =
      sym (ap (λ (told : Option (List World)). length (bytes_told told id (books id).entry)) is ∙ length-replicate (entry_len (books id).entry) 0)
  len_by (Some []) is id valid own volume =
      sym (ap (λ (told : Option (List World)). length (bytes_told told id (books id).entry)) is ∙ length-replicate (entry_len (books id).entry) 0)
  len_by (Some (world ∷ worlds)) is id valid own volume =
      let was = some_told (is_told first (world ∷ worlds) is) in
      len_here was.0 was.1 id valid own volume

  fits : (id : ℕ) → IsBlockId id → BooksFit volumes (books id) (cells_are id)
  fits id valid = books_fit second volumes id (places_of survey.blocks id) (opening.table.blocks.places id) (books id) (cell_bytes id) (len_by first refl id valid) (opening.says id)

  pub pool_stands : (known : Knowledge) → ((was : World) → IsWorldOf second was → HasFiles known was) → PoolStands after volumes books known cells_are
  pool_stands known premise = record {
    some_volume = opening.some_volume;
    fit = fits;
    blocks = λ now is id valid.
        let from = opening.comes now is in
        let table = opening.table in
        let there = surveyed from.0 from.1 in
        files_stand second id (places_of survey.blocks id) (table.blocks.places id).rise (kept id) (view_of from.0 id) (books id)
        (shown volumes survey table from.0 there id valid) (cell_bytes id) (bytes_here from.0 from.1 id)
        (view_of now id) (partly volumes survey table from.0 there id valid kept whole now from.2)
        (left volumes survey table from.0 there id valid kept whole now from.2 (opening.clear now is))
        (files_are volumes survey table id) (Fits known id)
        (subst (λ (files : BlockFiles). HasSoundCopies (Fits known id) files) (shown_view from.0 id there.aside) (premise from.0 from.1 id valid))
        (say from.0 from.1 id valid);
    aside = λ now is. let from = opening.comes now is in from.2.aside (surveyed from.0 from.1).aside;
  }

  -- what may be left meanwhile reads as the world that was shown
  pub meanwhile_reads : (was : World) → IsWorldOf second was → (image : Files) → CanLeave first image ⊎ LeftCleared (plan_of kept survey) second image → ReadsAlike (shown_files was) image
  meanwhile_reads was is image (inl leaves) =
      let same : leaves.0 ≡ was = one_world leaves.0 was leaves.1 (opening.remains was is) in
      world_reads was image (surveyed was is).aside (subst (λ (w : World). Leaves w image) same leaves.2)
  meanwhile_reads was is image (inr left_behind) =
      let same : left_behind.1.0 ≡ was = one_world left_behind.1.0 was (opening.remains left_behind.1.0 left_behind.1.1) (opening.remains was is) in
      (cleared_reads_back was is left_behind.0 image (subst (λ (w : World). Clears (plan_of kept survey) w left_behind.0) same left_behind.1.2) left_behind.2).alike

  -- THE OPENING
  pub opens : (past since : ℕ → Files → Type 0) → AddsOnly past since (λ image. CanLeave first image ⊎ LeftCleared (plan_of kept survey) second image) →
      Opens before after volumes books past since
  opens past since images = record {
    cells = cells_are;
    metas = metas_are;
    stands = pool_stands (exactly metas_are) files_here;
    stands_by = λ known premise. pool_stands known (λ was is. premise was (in_before was is));
    opened = λ id valid. opened_by (cell_bytes id) (books id).entry;
    shown = λ tells.
        let was = some_told (opening.call.honest.0 tells) in
        record {
          world = was.0;
          is = in_before was.0 was.1;
          made = λ id valid. made_here was.0 was.1 id valid;
          metas_are = files_here was.0 was.1;
          placed = λ id valid replica cell. placed_here was.0 was.1 id valid replica cell;
          waiting = λ id valid waits. waits_here was.0 was.1 id valid waits;
          images = λ t image behind. elim (images t image behind) [ inl earlier ↦ inl earlier | inr meanwhile ↦ inr (meanwhile_reads was.0 was.1 image meanwhile) ];
        };
    whole = λ image leaves.
        let from = opening.comes leaves.0 leaves.1 in
        all_cleared_whole from.0 from.1 leaves.0 image from.2 (opening.clear leaves.0 leaves.1) leaves.2;
  }
