-- An opening that first removes the metas that don't count, from what its calls gave.
use Rattle.std.proofs.Common.{◌≡◌, ◌≢◌, ◌⊎◌, ◌≤◌, inl, inr, ℕ, List, [], ◌∷◌, map, Option, None, Some, Contains, length, take, refl, ap, sym, ◌∙◌, subst, IsSome, IsTrue, IsSomeAnd, MatchOption}
use mathlib.Core.Path.{fun_ext}
use Rattle.std.specs.Prelude.{option_map}
use Rattle.std.specs.Ordering.{nat_cmp}
use Rattle.std.specs.BTreeMap.{get}
use Rattle.std.specs.declared.vec.Vec.{Vec}
use Rattle.std.specs.declared.alloc.Global.{Global}
use Rattle.std.proofs.lemmas.Bool.{false≢true}
use Rattle.std.proofs.lemmas.Option.{same_Some}
use Rattle.disk_model.specs.Files.{Files}
use Rattle.disk_model.specs.Worlds.{World, IsAbsent}
use Rattle.disk_model.specs.Told.{IsWorldOf, InEachWorld, StandsWithin, PicksOne, CanLeave, Leaves}
use Rattle.disk_model.specs.Moments.{AddsOnly}
use Rattle.disk_model.proofs.Laws.{only_one, has_one, some_world, told_list, is_told}
use Rattle.volume_layout.specs.Paths.{IsBlockId, block_path, rbw_block}
use Rattle.volume_layout.specs.declared.block_file.BlockFile.{BlockFile}
use Rattle.volume_layout.specs.declared.block_file.BlockFile.TheVariants.{Block, Meta, WritingBlock}
use Rattle.map_model.specs.World.{DraftsAside}
use Rattle.map_model.specs.Cells.{Replica, Cell, final, waiting}
use Rattle.map_model.specs.Copies.{Spot, own_spot, BlockFiles, IsCopy, IsGreatestCopy, ReadsAs}
use Rattle.map_model.specs.Openings.{shown_files, LeavesBlockFile, WaitsExactly, MakesCell, ReadsAlike}
use Rattle.map_model.specs.Sound.{exactly, Fits}
use Rattle.map_model.specs.Slots.{empty, is_standing, slot_at, View, view_of}
use Rattle.map_model.specs.Stands.{Entry, BlockBooks}
use Rattle.map_model.proofs.Places.{bare_absent, absent_empty}
use Rattle.map_model.proofs.Bridge.{view_slot}
use Rattle.pool_state.specs.Stands.{IsVolume}
use Rattle.pool_survey.specs.declared.places.FoundOn.{FoundOn}
use Rattle.pool_survey.specs.declared.surveying_pool.PoolSurvey.{PoolSurvey}
use Rattle.pool_survey.specs.Places.{places_of, ArePoolBlocks, HaveBlockIds, IsPoolSurveyOf}
use Rattle.pool_survey.specs.Remaining.{Remains}
use Rattle.pool_open.specs.declared.outcome.Outcome.{Outcome}
use Rattle.pool_open.specs.declared.outcome.Outcome.TheVariants.{Final, Waiting, Absent}
use Rattle.pool_open.specs.Plan.{Place}
use Rattle.pool_open.specs.Surplus.{IsTableBroughtDown}
use Rattle.pool_open.specs.Found.{IsSizeOf, IsOutcome, SaysOutcome, SaysFound}
use Rattle.pool_open.specs.Clearing.{Clears, AreClear, cleared, ComesAllCleared, ComesCleared, LeftInOrder, LeftCleared}
use Rattle.pool_open.specs.Waiting.{WaitsAs}
use Rattle.pool_open.specs.Outcome.{ReadsBack, ReadsAsOne, Shows, Opens}
use Rattle.pool_open.proofs.Placed.{none_in, no_places}
use Rattle.pool_open.proofs.Lists.{map_contains}
use Rattle.pool_open.proofs.Shown.{shown_view, world_reads_back}
use Rattle.pool_open.proofs.Made.{final_volume}
use Rattle.pool_open.proofs.Opened.{plan_of}
use Rattle.pool_open.proofs.Opens.{IsOpening, opens, cleared_reads_back}
use Rattle.pool_open.proofs.Ordered.{clears_cleared}
use Rattle.pool_open.proofs.Fronts.{surplus}
use Rattle.pool_open.proofs.Thinned.{IsThinned, reads_back, greatest_back, sound_on, sound_back}
use Rattle.pool_open.proofs.Gates.{IsNoMeta, others_stay, no_copy_stays, shown_thinned, reads_before, front_reads_back}
use Rattle.pool_open.proofs.Sizes.{size_as, says_found_as}
use Rattle.pool_open.proofs.Down.{blocks_down, few_down}
use Rattle.pool_open.proofs.Brought.{front, surveyed_down}

-- ---- what is read of thinned files, is read of the files before

waits_back : (was now : BlockFiles) (cell : Cell) → IsThinned was now → WaitsExactly now cell → WaitsExactly was cell
waits_back was now cell thin waits = record {
  waits = λ leaves. waits.waits (on leaves);
  absent = λ none. waits.absent (λ leaves. none (back leaves));
}
  where
    on : LeavesBlockFile was → LeavesBlockFile now
    on (vol, inl writing) = (vol, inl (thin.writing vol ∙ writing))
    on (vol, inr block) = (vol, inr (subst (λ (o : Option (List ℕ)). IsSome o) (sym (thin.block (own_spot vol))) block))

    back : LeavesBlockFile now → LeavesBlockFile was
    back (vol, inl writing) = (vol, inl (sym (thin.writing vol) ∙ writing))
    back (vol, inr block) = (vol, inr (subst (λ (o : Option (List ℕ)). IsSome o) (thin.block (own_spot vol)) block))

makes_back : (was now : BlockFiles) (cell : Cell) → IsThinned was now → MakesCell now cell → MakesCell was cell
makes_back was now cell thin made = record {
  replica = made.replica;
  reads = reads_back was now thin made.replica made.reads;
  made = by made.replica made.made;
}
  where
    by : (replica : Option Replica) → MatchOption replica (WaitsExactly now cell) (λ r. cell ≡ final r) → MatchOption replica (WaitsExactly was cell) (λ r. cell ≡ final r)
    by None waits = waits_back was now cell thin waits
    by (Some replica) is = is

kept_back : (was now : BlockFiles) (entry : Option Entry) (replica : Replica) → IsThinned was now →
    IsSomeAnd entry (λ e. IsGreatestCopy now (own_spot e.vol) replica) → IsSomeAnd entry (λ e. IsGreatestCopy was (own_spot e.vol) replica)
kept_back was now None replica thin kept = kept
kept_back was now (Some entry) replica thin kept = greatest_back was now thin (own_spot entry.vol) replica kept

-- a cell that waits was made of no copy
no_copy : (files : BlockFiles) (cell : Cell) → cell ≡ waiting → MakesCell files cell → (spot : Spot) (replica : Replica) → IsCopy files spot replica → ⊥
no_copy files cell waits made = by made.replica made.reads made.made
  where
    by : (replica : Option Replica) → ReadsAs files replica → MatchOption replica (WaitsExactly files cell) (λ r. cell ≡ final r) → (spot : Spot) (r : Replica) → IsCopy files spot r → ⊥
    by None reads is = reads
    by (Some replica) reads is = let bad : final replica ≡ waiting = sym is ∙ waits in absurd cc

-- of a block of which nothing was found nothing is said of sizes
says_nothing : (told new : Option (List World)) (id : ℕ) (books : BlockBooks) → SaysFound told id [] books → SaysFound new id [] books
says_nothing told new id books says = by says.outcome says.is says.says
  where
    by : (outcome : Outcome) → IsOutcome told id [] outcome → SaysOutcome outcome told id [] books → SaysFound new id [] books
    by (Final copy) is said = absurd (none_in _ (is.are.each (is.one_of.0) copy is.one_of.1).found)
    by Waiting is said = absurd (false≢true is.1)
    by Absent is said = record { outcome = Absent; is = is; says = said }

-- What the calls of an opening gave before anything was removed, and the worlds in which the metas that don't count were.
pub record IsGated (found table : PoolSurvey) (before first second : Option (List World)) (volumes : ℕ) (books : ℕ → BlockBooks) : Type 0 where
  pub some_volume : 1 ≤ volumes
  pub call : PicksOne (λ world. IsPoolSurveyOf world volumes found) (λ w. w) before first
  pub blocks : ArePoolBlocks volumes found.blocks
  pub listed : (id : ℕ) (places : Vec FoundOn Global) → Contains found.blocks.entries (id, places) → get nat_cmp found.blocks id ≡ Some places
  pub brought : IsTableBroughtDown found.blocks table.blocks
  pub temporary : table.temporary ≡ found.temporary
  pub ids : HaveBlockIds table.blocks
  pub table_listed : (id : ℕ) (places : Vec FoundOn Global) → Contains table.blocks.entries (id, places) → get nat_cmp table.blocks id ≡ Some places
  pub aside : InEachWorld before DraftsAside
  pub remains : Remains first second
  pub honest : IsSome first → IsSome second
  pub some : second ≢ Some []
  pub within : StandsWithin volumes second
  pub says : (id : ℕ) → SaysFound second id (places_of table.blocks id) (books id)

module _ (found table : PoolSurvey) (before first second : Option (List World)) (volumes : ℕ) (books : ℕ → BlockBooks) (gated : IsGated found table before first second volumes books) where
  abbrev pub every : List Place
  every = surplus volumes found gated.blocks gated.listed

  -- the disks without the metas that don't count
  abbrev pub down : Option (List World)
  down = option_map (map (cleared every)) first

  -- ---- the one world that was told

  record IsFirst (world : World) : Type 0 where
    is_before : IsWorldOf before world
    surveyed : IsPoolSurveyOf world volumes found
    alone : first ≡ Some (world ∷ [])
    aside : DraftsAside world
    within : (vol : ℕ) (path : List ℕ) → IsTrue (is_standing (slot_at world vol path)) → IsVolume volumes vol
    now : IsWorldOf second world

  the_first : IsSome first → (world : World) × IsFirst world
  the_first tells =
      let told = told_list before (gated.call.honest.1 tells) in
      let picked = gated.call.picked told.0 told.1 in
      let some = some_world second gated.some (gated.honest tells) in
      let same : picked.0 ≡ some.0 = in_first picked.0 picked.3 some.0 (gated.remains some.0 some.1) in
      let here : IsWorldOf second picked.0 = subst (λ (w : World). IsWorldOf second w) (sym same) some.1 in
      let told_before : IsWorldOf before picked.0 = (told.0, told.1, picked.1) in (
        picked.0,
        record {
          is_before = told_before;
          surveyed = picked.2;
          alone = picked.3;
          aside = gated.aside picked.0 told_before;
          within = λ vol path there. gated.within picked.0 here vol path (λ absent. false≢true (sym (ap is_standing (absent_empty picked.0 vol path absent)) ∙ there));
          now = here;
        },
      )
    where
      in_first : (world : World) → first ≡ Some (world ∷ []) → (other : World) → IsWorldOf first other → world ≡ other
      in_first world alone other is = only_one world other (subst (λ (worlds : List World). Contains worlds other) (same_Some _ _ (sym is.1 ∙ alone)) is.2)

  -- each world that was told is that one
  first_is : (world : World) → IsFirst world → (other : World) → IsWorldOf first other → world ≡ other
  first_is world one other is = only_one world other (subst (λ (worlds : List World). Contains worlds other) (same_Some _ _ (sym is.1 ∙ one.alone)) is.2)

  down_is : (world : World) → IsFirst world → down ≡ Some (cleared every world ∷ [])
  down_is world one = ap (λ (told : Option (List World)). option_map (map (cleared every)) told) one.alone

  tells_first : (told : Option (List World)) → IsSome (option_map (map (cleared every)) told) → IsSome told
  tells_first None is = is
  tells_first (Some worlds) is = refl

  -- each world of them comes from the one
  down_world : (now : World) → IsWorldOf down now → (was : World) × IsFirst was × (now ≡ cleared every was)
  down_world now is =
      let one = the_first (tells_first first (is_told down is.0 is.1)) in
      (one.0, one.1, sym (only_one (cleared every one.0) now (subst (λ (worlds : List World). Contains worlds now) (same_Some _ _ (sym is.1 ∙ down_is one.0 one.1)) is.2)))

  to_down : (was : World) → IsWorldOf first was → IsWorldOf down (cleared every was)
  to_down was is = (map (cleared every) is.0, ap (λ (told : Option (List World)). option_map (map (cleared every)) told) is.1, map_contains (cleared every) is.0 was is.2)

  -- ---- the world, and what is left of it

  module _ (was : World) (one : IsFirst was) where
    thinned : (now : World) → now ≡ cleared every was → (id : ℕ) → IsBlockId id → IsThinned (shown_files was id) (shown_files now id)
    thinned now is id valid = shown_thinned volumes found gated.blocks gated.listed was one.surveyed one.aside one.within id valid now (length every)
        (front volumes found gated.blocks gated.listed was one.surveyed one.aside one.within now is)

    stays : (now : World) → now ≡ cleared every was → (id : ℕ) → IsBlockId id → (vol : ℕ) (f : BlockFile) → IsNoMeta f → view_of now id vol f ≡ view_of was id vol f
    stays now is id valid = others_stay volumes found gated.blocks gated.listed was one.surveyed one.aside one.within id valid now (length every)
        (front volumes found gated.blocks gated.listed was one.surveyed one.aside one.within now is)

    block_stays : (now : World) → now ≡ cleared every was → (id : ℕ) → IsBlockId id → (vol : ℕ) → slot_at now vol (block_path id) ≡ slot_at was vol (block_path id)
    block_stays now is id valid vol = sym (view_slot now id vol Block refl) ∙ stays now is id valid vol Block (λ stamp same. let bad : Block ≡ Meta stamp = same in absurd cc) ∙ view_slot was id vol Block refl

    writing_stays : (now : World) → now ≡ cleared every was → (id : ℕ) → IsBlockId id → (vol : ℕ) → slot_at now vol (rbw_block id) ≡ slot_at was vol (rbw_block id)
    writing_stays now is id valid vol = sym (view_slot now id vol WritingBlock refl) ∙ stays now is id valid vol WritingBlock (λ stamp same. let bad : WritingBlock ≡ Meta stamp = same in absurd cc)
        ∙ view_slot was id vol WritingBlock refl

    within_down : (now : World) → now ≡ cleared every was → (vol : ℕ) (path : List ℕ) → (IsAbsent now vol path → ⊥) → IsVolume volumes vol
    within_down now is vol path there = gated.within was one.now vol path (λ absent. there (bare_absent now vol path (ap is_standing (bare absent))))
      where
        bare : IsAbsent was vol path → slot_at now vol path ≡ empty
        bare absent = ap (λ (w : World). slot_at w vol path) is ∙ elim ((clears_cleared every was).each vol path) [ inl same ↦ same ∙ absent_empty was vol path absent | inr went ↦ went.0 ]

  -- ---- the opening of what is left

  call_down : PicksOne (λ world. IsPoolSurveyOf world volumes table) (λ w. w) down down
  call_down = record {
    honest = (λ x. x, λ x. x);
    picked = λ worlds is.
        let one = the_first (tells_first first (is_told down worlds is)) in
        let alone = down_is one.0 one.1 in (
          cleared every one.0,
          subst (λ (ws : List World). Contains ws (cleared every one.0)) (same_Some _ _ (sym alone ∙ is)) (has_one (cleared every one.0)),
          surveyed_down volumes found gated.blocks gated.listed one.0 one.1.surveyed one.1.aside one.1.within (cleared every one.0) refl table gated.brought gated.temporary,
          alone,
        );
  }

  -- the sizes are as before
  sizes_down : (vol : ℕ) (path : List ℕ) → ((was : World) → IsFirst was → (now : World) → now ≡ cleared every was → slot_at now vol path ≡ slot_at was vol path) →
      (size : ℕ) → IsSizeOf second vol path size → IsSizeOf down vol path size
  sizes_down vol path same size sized now is =
      let it = down_world now is in
      size_as it.0 now vol path (same it.0 it.1 now it.2) size (sized it.0 it.1.now)

  says_down : (id : ℕ) → SaysFound down id (places_of table.blocks id) (books id)
  says_down id = by (get nat_cmp table.blocks id) refl
    where
      by : (o : Option (Vec FoundOn Global)) → get nat_cmp table.blocks id ≡ o → SaysFound down id (places_of table.blocks id) (books id)
      by None none =
          let bare : places_of table.blocks id ≡ [] = no_places table.blocks id none in
          subst (λ (places : List FoundOn). SaysFound down id places (books id)) (sym bare)
          (says_nothing second down id (books id) (subst (λ (places : List FoundOn). SaysFound second id places (books id)) bare (gated.says id)))
      by (Some places) some =
          let valid = gated.ids id places some in
          says_found_as second down id (λ vol size. sizes_down vol (block_path id) (λ was one now is. block_stays was one now is id valid vol) size)
          (λ vol size. sizes_down vol (rbw_block id) (λ was one now is. writing_stays was one now is id valid vol) size)
          (places_of table.blocks id) (books id) (gated.says id)

  module _ (kept : ℕ → Option ℕ) (kept_is : (id : ℕ) → kept id ≡ final_volume (books id).entry) (third after : Option (List World))
      (third_is : InEachWorld third (ComesAllCleared every second)) (comes : InEachWorld after (ComesCleared (plan_of kept table) third)) (clear : InEachWorld after (AreClear (plan_of kept table))) where
    opening : IsOpening kept table down down down after volumes books
    opening = record {
      some_volume = gated.some_volume;
      call = call_down;
      table = record { blocks = blocks_down volumes found table gated.blocks gated.brought gated.ids; few = few_down found table gated.brought; listed = gated.table_listed };
      aside = λ now is. let it = down_world now is in subst (λ (w : World). DraftsAside w) (sym it.2) ((clears_cleared every it.0).aside it.1.aside);
      remains = λ now is. is;
      honest = λ tells. tells;
      some = λ none.
          let one = the_first (tells_first first (is_told down [] none)) in
          let bad : cleared every one.0 ∷ [] ≡ [] = same_Some _ _ (sym (down_is one.0 one.1) ∙ none) in absurd cc;
      within = λ now is. let it = down_world now is in within_down it.0 it.1 now it.2;
      says = says_down;
      kept_is = kept_is;
      comes = λ now is.
          let from = comes now is in
          let at = third_is from.0 from.1 in
          (cleared every at.0, to_down at.0 (gated.remains at.0 at.1), subst (λ (w : World). Clears (plan_of kept table) w now) at.2 from.2);
      clear = clear;
    }

    -- what may be left meanwhile
    abbrev pub Meanwhile : Files → Type 0
    Meanwhile image = CanLeave first image ⊎ (LeftInOrder every second image ⊎ LeftCleared (plan_of kept table) third image)

    -- reads as the world before does
    meanwhile_reads : (image : Files) → Meanwhile image → (was : World) × IsFirst was × ReadsBack was image
    meanwhile_reads image (inl leaves) =
        let one = the_first (is_told first leaves.1.0 leaves.1.1) in
        let same : one.0 ≡ leaves.0 = first_is one.0 one.1 leaves.0 leaves.1 in
        (one.0, one.1, world_reads_back one.0 image one.1.aside (subst (λ (w : World). Leaves w image) (sym same) leaves.2))
    meanwhile_reads image (inr (inl left)) =
        let from = left.1 in
        let told = gated.remains from.0 from.1 in
        let one = the_first (is_told first told.0 told.1) in
        let same : one.0 ≡ from.0 = first_is one.0 one.1 from.0 told in (
          one.0,
          one.1,
          front_reads_back volumes found gated.blocks gated.listed one.0 one.1.surveyed one.1.aside one.1.within left.0 from.2 (from.3 ∙ ap (λ (w : World). cleared (take from.2 every) w) (sym same)) image left.2,
        )
    meanwhile_reads image (inr (inr left)) =
        let from = left.1 in
        let at = third_is from.0 from.1 in
        let told = gated.remains at.0 at.1 in
        let one = the_first (is_told first told.0 told.1) in
        let same : one.0 ≡ at.0 = first_is one.0 one.1 at.0 told in
        let is : from.0 ≡ cleared every one.0 = at.2 ∙ ap (cleared every) (sym same) in
        let now : IsWorldOf down from.0 = subst (λ (w : World). IsWorldOf down w) (sym at.2) (to_down at.0 told) in (
          one.0,
          one.1,
          reads_before volumes found gated.blocks gated.listed one.0 one.1.surveyed one.1.aside one.1.within from.0 (length every)
              (front volumes found gated.blocks gated.listed one.0 one.1.surveyed one.1.aside one.1.within from.0 is) image
              (cleared_reads_back kept table down down down after volumes books opening from.0 now left.0 image from.2 left.2),
        )

    pub meanwhile_before : (image : Files) → Meanwhile image → ReadsAsOne before image
    meanwhile_before image meanwhile = let it = meanwhile_reads image meanwhile in (it.0, it.1.is_before, it.2)

    -- THE OPENING
    module _ (past since : ℕ → Files → Type 0) (images : AddsOnly past since Meanwhile) where
      of_down : Opens down after volumes books past past
      of_down = opens kept table down down down after volumes books opening past past (λ t image left. inl left)

      shows : IsSome before → Shows before of_down.cells of_down.metas books past since
      shows tells =
          let one = the_first (gated.call.honest.0 tells) in
          let was : World = one.0 in
          let shown = of_down.shown (is_told down (cleared every was ∷ []) (down_is was one.1)) in
          let it = down_world shown.world shown.is in
          let same : it.0 ≡ was = sym (first_is was one.1 it.0 (Some_world it.0 it.1)) in
          let is : shown.world ≡ cleared every was = it.2 ∙ ap (cleared every) same in
          let thin : (id : ℕ) → IsBlockId id → IsThinned (shown_files was id) (shown_files shown.world id) = thinned was one.1 shown.world is in
          let made : (id : ℕ) → IsBlockId id → MakesCell (shown_files was id) (of_down.cells id) =
          λ id valid. makes_back (shown_files was id) (shown_files shown.world id) (of_down.cells id) (thin id valid) (shown.made id valid) in
          record {
            world = was;
            is = one.1.is_before;
            made = made;
            metas_are = λ id valid. sound_back (shown_files was id) (shown_files shown.world id) (thin id valid) (Fits (exactly of_down.metas) id) (shown.metas_are id valid);
            placed = λ id valid replica cell. kept_back (shown_files was id) (shown_files shown.world id) (books id).entry replica (thin id valid) (shown.placed id valid replica cell);
            waiting = λ id valid waits. subst (λ (view : View). WaitsAs view (books id)) (same_view was one.1 shown.world is id valid (no_copy (shown_files was id) (of_down.cells id) waits (made id valid)))
                (shown.waiting id valid waits);
            images = λ t image left. elim (images t image left) [
              | inl earlier ↦ inl earlier
              | inr meanwhile ↦
                  let reads = meanwhile_reads image meanwhile in
                  inr (subst (λ (w : World). ReadsAlike (shown_files w) image) (sym (first_is was one.1 reads.0 (Some_world reads.0 reads.1))) reads.2.alike)
            ];
          }
        where
          Some_world : (world : World) → IsFirst world → IsWorldOf first world
          Some_world world one = (world ∷ [], one.alone, has_one world)

          same_view : (was : World) (one : IsFirst was) (now : World) → now ≡ cleared every was → (id : ℕ) → IsBlockId id → ((spot : Spot) (replica : Replica) → IsCopy (shown_files was id) spot replica → ⊥) →
              view_of now id ≡ view_of was id
          same_view was one now is id valid none = fun_ext (λ vol. fun_ext (λ f. no_copy_stays volumes found gated.blocks gated.listed was one.surveyed one.aside one.within id valid now (length every)
              (front volumes found gated.blocks gated.listed was one.surveyed one.aside one.within now is)
              (subst (λ (files : BlockFiles). (spot : Spot) (replica : Replica) → IsCopy files spot replica → ⊥) (shown_view was id one.aside) none) vol f))

      pub gated_opens : Opens before after volumes books past since
      gated_opens = record {
        cells = of_down.cells;
        metas = of_down.metas;
        stands = of_down.stands;
        stands_by = λ known premise. of_down.stands_by known (λ now is id valid.
            let it = down_world now is in
            sound_on (shown_files it.0 id) (shown_files now id) (thinned it.0 it.1 now it.2 id valid) (Fits known id) (premise it.0 it.1.is_before id valid));
        opened = of_down.opened;
        shown = shows;
        whole = of_down.whole;
      }
