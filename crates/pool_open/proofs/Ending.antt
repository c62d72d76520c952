-- The clauses of an opening, from what its calls gave.
use Rattle.std.proofs.Common.{◌≡◌, ◌⊎◌, ◌↔◌, ◌≤◌, inl, inr, ℕ, Bool, true, false, List, [], ◌∷◌, Option, None, Some, All, Contains, length, refl, ap, sym, ◌∙◌, subst, arith, IsSome}
use Rattle.std.specs.Prelude.{◌+◌, ◌==◌, if◌then◌else◌, option_map}
use Rattle.std.specs.List.{flat_map}
use Rattle.std.specs.Ordering.{nat_cmp}
use Rattle.std.specs.BTreeMap.{get}
use Rattle.std.specs.declared.vec.Vec.{Vec}
use Rattle.std.specs.declared.alloc.Global.{Global}
use Rattle.std.proofs.lemmas.List.Elements.{All-contains, All-nil, All-cons, All-append}
use Rattle.disk_model.specs.declared.disks.PoolDisks.{Ghosts}
use Rattle.disk_model.specs.Files.{Files}
use Rattle.disk_model.specs.Worlds.{World}
use Rattle.disk_model.specs.Told.{InEachWorld, CanLeave}
use Rattle.disk_model.specs.Moments.{Elapses, AddsOnly}
use Rattle.disk_model.proofs.GoingOn.{went_call}
use Rattle.volume_layout.specs.Paths.{IsBlockId, meta_path, rbw_meta}
use Rattle.map_model.specs.World.{DraftsAside}
use Rattle.map_model.specs.Stands.{BlockBooks}
use Rattle.pool_state.specs.Books.{block_books, book_entry, entry_state}
use Rattle.pool_state.specs.Stands.{IsVolume}
use Rattle.replica_map.specs.declared.entry.Entry.{Entry}
use Rattle.replica_map.specs.declared.entry.Grown.{Grown}
use Rattle.replica_map.specs.declared.entry.State.{State}
use Rattle.replica_map.specs.declared.entry.State.TheVariants.{Finalised, Writing, Unsure, Waiting}
use Rattle.replica_map.specs.Counting.{is_final}
use Rattle.replica_map.specs.Books.{Books, entry_at, grown_at}
use Rattle.pool_survey.specs.declared.places.FoundOn.{FoundOn}
use Rattle.pool_survey.specs.declared.surveying_pool.PoolSurvey.{PoolSurvey}
use Rattle.pool_survey.specs.Places.{ArePoolBlocks}
use Rattle.pool_survey.specs.Remaining.{Remains}
use Rattle.pool_open.specs.declared.paths.Piece.{Piece}
use Rattle.pool_open.specs.declared.paths.Piece.TheVariants.{Lesser, Superseded, Orphans}
use Rattle.pool_open.specs.Plan.{Place, copy_stamp, block_on, metas_on, writing_on, writing_metas_on, whole_copy, bare_block, lone_writing_on, piece_on, pieces_of, names_on, temporary_from, kept_by, kept_in}
use Rattle.pool_open.specs.Clearing.{IsOnVolumes, AreOnVolumes, LeftCleared}
use Rattle.pool_open.specs.Looking.{OnlyLooks}
use Rattle.pool_open.specs.Outcome.{ReadsAsOne}
use Rattle.pool_open.proofs.Lists.{flat_all, map_all}
use Rattle.pool_open.proofs.Looks.{leaves_before}
use Rattle.pool_open.proofs.Shown.{world_reads_back}
use Rattle.pool_open.proofs.Placed.{first_in, later_in, places_here}
use Rattle.pool_open.proofs.Made.{final_vol, final_volume}
use Rattle.pool_open.proofs.Opened.{plan_of}
use Rattle.pool_open.proofs.Opens.{IsOpening, cleared_reads_back, in_before}

-- ---- looking

module _ {D S T R : Type 0} (g : Ghosts D S T R) (old new : D) where
  -- a call that looks
  pub looked : Remains (g.worlds old) (g.worlds new) → IsSome (g.worlds old) ↔ IsSome (g.worlds new) → g.faults old ≤ g.faults new → g.absences old ≤ g.absences new →
      g.next_number new ≡ g.next_number old → g.volume_count new ≡ g.volume_count old → Elapses (g.moment old) (g.moment new) (g.left_since old) (g.left_since new) (CanLeave (g.worlds new)) →
      ((t : ℕ) (image : Files) → t ≤ g.moment new → CanLeave (g.worlds new) image → g.left_since new t image) → OnlyLooks g old new
  looked remains honest faults absences numbers volumes time counts = record {
    remains = remains;
    goes_on = went_call g counts time honest faults absences (omega (arith, numbers)) volumes;
    images = λ t image left. elim (time.nothing_else t image left) [
      | inl earlier ↦ inl earlier
      | inr leaves ↦ inr (leaves_before (g.worlds old) (g.worlds new) remains image leaves)
    ];
  }

  -- what is left where calls only looked reads as some world did
  pub looked_images : OnlyLooks g old new → InEachWorld (g.worlds old) DraftsAside →
      AddsOnly (g.left_since old) (g.left_since new) (ReadsAsOne (g.worlds old))
  looked_images looks aside t image left = elim (looks.images t image left) [
    | inl earlier ↦ inl earlier
    | inr leaves ↦ inr (leaves.0, leaves.1, world_reads_back leaves.0 image (aside leaves.0 leaves.1) leaves.2)
  ]

-- what could be left by each of three runs
pub joined : {surveyed_past first_past second_past last : ℕ → Files → Type 0} (kept : ℕ → Option ℕ) (survey : PoolSurvey) (first second : Option (List World)) →
    AddsOnly surveyed_past first_past (CanLeave first) → AddsOnly first_past second_past (CanLeave first) → AddsOnly second_past last (LeftCleared (plan_of kept survey) second) →
    AddsOnly surveyed_past last (λ image. CanLeave first image ⊎ LeftCleared (plan_of kept survey) second image)
joined kept survey first second one two three t image left = elim (three t image left) [
  | inr cleared ↦ inr (inr cleared)
  | inl earlier ↦ elim (two t image earlier) [
    | inr leaves ↦ inr (inl leaves)
    | inl still_earlier ↦ elim (one t image still_earlier) [ inl before ↦ inl before | inr leaves ↦ inr (inl leaves) ]
  ]
]

-- no world is told
pub none_told : (P : World → Type 0) → InEachWorld None P
none_told P world is = (let bad : None ≡ Some is.0 = is.1 in absurd cc)

-- what is left while places are cleared reads as some world did
pub meanwhile_before : (kept : ℕ → Option ℕ) (survey : PoolSurvey) (before first second after : Option (List World)) (volumes : ℕ) (books : ℕ → BlockBooks) →
    IsOpening kept survey before first second after volumes books → Remains before first → (image : Files) → CanLeave first image ⊎ LeftCleared (plan_of kept survey) second image →
    ReadsAsOne before image
meanwhile_before kept survey before first second after volumes books opening remains image (inl leaves) =
    let is = remains leaves.0 leaves.1 in
    (leaves.0, is, world_reads_back leaves.0 image (opening.aside leaves.0 is) leaves.2)
meanwhile_before kept survey before first second after volumes books opening remains image (inr left) =
    let was = left.1.0 in
    let is = left.1.1 in (
      was,
      in_before kept survey before first second after volumes books opening was is,
      cleared_reads_back kept survey before first second after volumes books opening was is left.0 image left.1.2 left.2,
    )

-- ---- the table

module _ (volumes : ℕ) (survey : PoolSurvey) (blocks : ArePoolBlocks volumes survey.blocks)
    (listed : All (λ (entry : ℕ × Vec FoundOn Global). get nat_cmp survey.blocks entry.0 ≡ Some entry.1) survey.blocks.entries) where
  found_of_entry : (entry : ℕ × Vec FoundOn Global) → Contains survey.blocks.entries entry → get nat_cmp survey.blocks entry.0 ≡ Some entry.1
  found_of_entry entry has = All-contains (λ (entry : ℕ × Vec FoundOn Global). get nat_cmp survey.blocks entry.0 ≡ Some entry.1) survey.blocks.entries entry listed has

  -- its entries are those of blocks
  pub ids_of : All (λ (entry : ℕ × Vec FoundOn Global). IsBlockId entry.0) survey.blocks.entries
  ids_of = each_of survey.blocks.entries (λ entry has. blocks.ids entry.0 entry.1 (found_of_entry entry has))
    where
      each_of : (es : List (ℕ × Vec FoundOn Global)) → ((entry : ℕ × Vec FoundOn Global) → Contains es entry → IsBlockId entry.0) → All (λ (entry : ℕ × Vec FoundOn Global). IsBlockId entry.0) es
      each_of [] each = All-nil (λ (entry : ℕ × Vec FoundOn Global). IsBlockId entry.0)
      each_of (e ∷ es) each = All-cons (λ (entry : ℕ × Vec FoundOn Global). IsBlockId entry.0) e es (each e (first_in e es))
          (each_of es (λ entry has. each entry (later_in e es entry has)))

  -- ---- the plan is on the volumes

  abbrev OnVolumes : List Place → Type 0
  OnVolumes places = All (IsOnVolumes volumes) places

  if_on : (b : Bool) (xs : List Place) → OnVolumes xs → OnVolumes (if b then xs else [])
  if_on true xs all = all
  if_on false xs all = All-nil (IsOnVolumes volumes)

  unless_on : (b : Bool) (xs : List Place) → OnVolumes xs → OnVolumes (if b then [] else xs)
  unless_on true xs all = All-nil (IsOnVolumes volumes)
  unless_on false xs all = all

  module _ (id : ℕ) (on : FoundOn) (there : IsVolume volumes on.vol) where
    block_there : OnVolumes (block_on id on)
    block_there = if_on on.files.block _ (All-cons (IsOnVolumes volumes) _ [] there (All-nil (IsOnVolumes volumes)))

    metas_there : OnVolumes (metas_on id on)
    metas_there = map_all (IsOnVolumes volumes) (λ (stamp : ℕ). (on.vol, meta_path id stamp)) on.files.metas.items (λ stamp has. there)

    writing_there : OnVolumes (writing_on id on)
    writing_there = if_on on.files.writing _ (All-cons (IsOnVolumes volumes) _ [] there (All-nil (IsOnVolumes volumes)))

    writing_metas_there : OnVolumes (writing_metas_on id on)
    writing_metas_there = map_all (IsOnVolumes volumes) (λ (stamp : ℕ). (on.vol, rbw_meta id stamp)) on.files.writing_metas.items (λ stamp has. there)

    whole_there : (stamp : Option ℕ) → OnVolumes (whole_copy stamp id on)
    whole_there None = All-nil (IsOnVolumes volumes)
    whole_there (Some stamp) = All-append (IsOnVolumes volumes) (block_on id on) (metas_on id on) block_there metas_there

    bare_there : (stamp : Option ℕ) → OnVolumes (bare_block stamp id on)
    bare_there None = block_there
    bare_there (Some stamp) = All-nil (IsOnVolumes volumes)

    lone_there : (kept : Option ℕ) → OnVolumes (lone_writing_on kept id on)
    lone_there None = unless_on on.files.writing (writing_metas_on id on) writing_metas_there
    lone_there (Some own) = All-nil (IsOnVolumes volumes)

    piece_there : (piece : Piece) (kept : Option ℕ) → OnVolumes (piece_on piece kept id on)
    piece_there Lesser None = All-nil (IsOnVolumes volumes)
    piece_there Lesser (Some own) = unless_on (on.vol == own) (whole_copy (copy_stamp on.files) id on) (whole_there (copy_stamp on.files))
    piece_there Superseded None = All-nil (IsOnVolumes volumes)
    piece_there Superseded (Some own) = All-append (IsOnVolumes volumes) (writing_on id on) _ writing_there
        (All-append (IsOnVolumes volumes) (writing_metas_on id on) (bare_block (copy_stamp on.files) id on) writing_metas_there (bare_there (copy_stamp on.files)))
    piece_there Orphans kept = All-append (IsOnVolumes volumes) (if on.files.block then [] else metas_on id on) (lone_writing_on kept id on)
        (unless_on on.files.block (metas_on id on) metas_there) (lone_there kept)

  names_there : (from : ℕ) (temporary : List (List (List ℕ))) → 1 ≤ from → from + length temporary ≤ volumes + 1 → OnVolumes (temporary_from from temporary)
  names_there from [] low high = All-nil (IsOnVolumes volumes)
  names_there from (names ∷ more) low high =
      let fits : from ≤ volumes = omega (arith, high) in
      All-append (IsOnVolumes volumes) (names_on from names) (temporary_from (from + 1) more)
      (map_all (IsOnVolumes volumes) _ names (λ name has. (low, fits)))
      (names_there (from + 1) more (omega (arith, low)) (omega (arith, high)))

  pieces_there : (kept : ℕ → Option ℕ) (piece : Piece) → OnVolumes (flat_map (pieces_of piece kept) survey.blocks.entries)
  pieces_there kept piece = flat_all (IsOnVolumes volumes) (pieces_of piece kept) survey.blocks.entries (λ entry has.
      let is = found_of_entry entry has in
      flat_all (IsOnVolumes volumes) (piece_on piece (kept entry.0) entry.0) entry.1.items (λ on there.
      piece_there entry.0 on
      (All-contains (λ (on : FoundOn). IsVolume volumes on.vol) entry.1.items on
      (subst (λ (places : List FoundOn). All (λ (on : FoundOn). IsVolume volumes on.vol) places) (places_here survey.blocks entry.0 entry.1 is) (blocks.places entry.0).on_volumes) there)
      piece (kept entry.0)))

  pub plan_on_volumes : (kept : ℕ → Option ℕ) → length survey.temporary.items ≡ volumes → AreOnVolumes volumes (plan_of kept survey)
  plan_on_volumes kept counted = All-append (IsOnVolumes volumes) (temporary_from 1 survey.temporary.items) _
      (names_there 1 survey.temporary.items (omega arith) (omega (arith, counted)))
      (All-append (IsOnVolumes volumes) (flat_map (pieces_of Lesser kept) survey.blocks.entries) _ (pieces_there kept Lesser)
      (All-append (IsOnVolumes volumes) (flat_map (pieces_of Superseded kept) survey.blocks.entries) (flat_map (pieces_of Orphans kept) survey.blocks.entries)
      (pieces_there kept Superseded) (pieces_there kept Orphans)))

-- ---- the volume that is kept

kept_state : (grown : Option Grown) (state : State) (vol : ℕ) → (if is_final state then Some vol else None) ≡ final_vol (entry_state grown state) vol
kept_state grown Finalised vol = refl
kept_state grown Writing vol = refl
kept_state grown Unsure vol = refl
kept_state grown Waiting vol = refl

kept_entry : (books : Books) (id : ℕ) (entry : Option Entry) → entry_at books id ≡ entry → kept_in books id ≡ final_volume (block_books books id).entry
kept_entry books id None is = ap kept_by is ∙ sym (ap (λ (e : Option Entry). final_volume (option_map (book_entry (grown_at books id)) e)) is)
kept_entry books id (Some entry) is = ap kept_by is ∙ kept_state (grown_at books id) entry.state entry.vol
    ∙ sym (ap (λ (e : Option Entry). final_volume (option_map (book_entry (grown_at books id)) e)) is)

-- by the books it is that of the entry of a replica
pub kept_volume : (books : Books) (id : ℕ) → kept_in books id ≡ final_volume (block_books books id).entry
kept_volume books id = kept_entry books id (entry_at books id) refl
