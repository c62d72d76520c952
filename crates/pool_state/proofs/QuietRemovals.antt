-- Removing the leftovers of a block changes no cell.
use Rattle.std.proofs.Common.{◌≡◌, ◌==◌, if◌then◌else◌, inl, inr, ℕ, List, [], ◌∷◌, Option, None, Some, refl, sym, subst}
use Rattle.disk_model.specs.Files.{Files}
use Rattle.disk_model.specs.Moments.{AddsOnly}
use Rattle.map_model.specs.Copies.{OneWhole}
use Rattle.disk_model.specs.Worlds.{World}
use Rattle.disk_model.specs.Told.{CanLeave}
use Rattle.volume_layout.specs.Paths.{IsBlockId}
use Rattle.map_model.specs.Cells.{Cell, Cells, waiting}
use Rattle.map_model.specs.Allows.{AllowsImage}
use Rattle.map_model.specs.Sound.{Knowledge, matching, Fits}
use Rattle.map_model.specs.Slots.{View, remove_in}
use Rattle.map_model.specs.Stands.{EntryState, is_final, is_written, in_doubt, is_waiting, Agrees, Entry, Leftover, BlockBooks, BlockStands}
use Rattle.map_model.specs.Tenures.{books_of, Fails, gone, kept}
use Rattle.map_model.proofs.Removing.{removes_stands}
use Rattle.pool_state.specs.Answers.{IsQuiet}
use Rattle.pool_state.specs.Reaching.{Reaches}
use Rattle.pool_state.specs.Stands.{with_cell, IsVolume, IsNoWait, IsNotWaiting, BooksFit, PoolStands}
use Rattle.pool_state.proofs.Changing.{Leads, pool_stands, with_cell-same}
use Rattle.pool_state.proofs.Deletions.{waiting_cell}
use Rattle.pool_state.proofs.Showing.{Shown, Quiet, passes_end, shown, adds_join}

-- what is shown of a block whose cell stays
pub shown_quiet : (known : Knowledge) (cells : Cells) (id : ℕ) (image : Files) → Shown known cells (with_cell cells id (cells id)) image → Quiet known cells image
shown_quiet known cells id image shows = record {
  allowed = elim shows.allowed [
    | inl before ↦ before
    | inr after ↦ subst (λ (cs : Cells). AllowsImage cs image) (with_cell-same cells id) after
  ];
  matching = shows.matching;
  whole = shows.whole;
}

-- the block of an entry that waits, waits
waiting_by : (cell : Cell) (state : EntryState) (e : Entry) → e.state ≡ state → Agrees (Some e) cell → (IsNoWait e.state → ⊥) → cell ≡ waiting
waiting_by cell is_final e is agrees not = absurd (not (subst IsNoWait (sym is) tt))
waiting_by cell (is_written base b m) e is agrees not = absurd (not (subst IsNoWait (sym is) tt))
waiting_by cell (in_doubt base) e is agrees not = absurd (not (subst IsNoWait (sym is) tt))
waiting_by cell is_waiting e is agrees not = waiting_cell cell e is agrees

module _ {told : Option (List World)} {volumes : ℕ} {books : ℕ → BlockBooks} {known : Knowledge} {cells : Cells}
    (stands : PoolStands told volumes books known cells) (id : ℕ) (valid : IsBlockId id) (entry : Option Entry)
    (leftover : Leftover) (back : List Leftover) (listed : books id ≡ books_of entry (leftover ∷ back) None) where
  own_listed : (view : View) → BlockStands (Fits known id) view (books id) (cells id) →
      BlockStands (Fits known id) view (books_of entry (leftover ∷ back) None) (cells id)
  own_listed view own = subst (λ b. BlockStands (Fits known id) view b (cells id)) listed own

  fit_here : BooksFit volumes (books_of entry (leftover ∷ back) None) (cells id)
  fit_here = subst (λ b. BooksFit volumes b (cells id)) listed (stands.fit id valid)

  pub left_placed : IsVolume volumes leftover.vol
  left_placed = fit_here.left_placed.0

  -- a removal that fails leaves it listed
  pub removal_failed : Leads known id volumes (λ before after. Fails before (remove_in before leftover.vol leftover.file) after) (books id) (cells id) (books id) (cells id)
  removal_failed = record {
    fit = stands.fit id valid;
    own = λ before after fails own.
        subst (λ b. BlockStands (Fits known id) after b (cells id)) (sym listed)
        (removes_stands (Fits known id) before entry [] leftover back None (cells id) after (leftover ∷ back) (own_listed before own) (kept after fails));
  }

  -- what has leftovers waits
  waits_by : (o : Option Entry) → Agrees o (cells id) → (IsNotWaiting o → ⊥) → cells id ≡ waiting
  waits_by None agrees not = absurd (not tt)
  waits_by (Some e) agrees not = waiting_by (cells id) e.state e refl agrees not

  not_empty : leftover ∷ back ≡ [] → ⊥
  not_empty is = cc

  pub cell_waits : cells id ≡ waiting
  cell_waits = waits_by entry fit_here.agrees (λ calm. not_empty (fit_here.clean calm))

  still_waits : (o : Option Entry) → Agrees o waiting → IsNotWaiting o → ⊥
  still_waits None agrees calm = agrees
  still_waits (Some e) agrees calm = subst IsNoWait agrees calm

  -- one that was done takes it off
  pub removal_done : Leads known id volumes (λ before after. after ≡ remove_in before leftover.vol leftover.file) (books id) (cells id) (books_of entry back None) (cells id)
  removal_done = record {
    fit = record {
      agrees = fit_here.agrees;
      placed = fit_here.placed;
      left_placed = fit_here.left_placed.1;
      clean = λ calm. absurd (still_waits entry (subst (Agrees entry) cell_waits fit_here.agrees) calm);
      fresh = fit_here.fresh;
    };
    own = λ before after stepped own.
        subst (λ v. BlockStands (Fits known id) v (books_of entry back None) (cells id)) (sym stepped)
        (removes_stands (Fits known id) before entry [] leftover back None (cells id) (remove_in before leftover.vol leftover.file) back (own_listed before own) gone);
  }

-- the images of a step that leaves the cell
pub quiet_images : {told told' : Option (List World)} {volumes : ℕ} {books : ℕ → BlockBooks} {known : Knowledge} {cells : Cells} (stands : PoolStands told volumes books known cells)
    (id : ℕ) (valid : IsBlockId id) {step : View → View → Type 0} {now : BlockBooks} → Reaches id step told told' → Leads known id volumes step (books id) (cells id) now (cells id) →
    (image : Files) → CanLeave told' image → Quiet known cells image
quiet_images {told' = told'} {known = known} {cells = cells} stands id valid {step} reaches leads image leaves =
    shown_quiet known cells id image (shown stands id valid step told' reaches (cells id) (passes_end stands id valid leads) image leaves)

-- and what stands after it
pub quiet_stands : {told told' : Option (List World)} {volumes volumes' : ℕ} {books books' : ℕ → BlockBooks} {known : Knowledge} {cells : Cells} (stands : PoolStands told volumes books known cells)
    (id : ℕ) (valid : IsBlockId id) {step : View → View → Type 0} {now : BlockBooks} → Reaches id step told told' → volumes' ≡ volumes → Leads known id volumes step (books id) (cells id) now (cells id) →
    ((other : ℕ) → books' other ≡ (if other == id then now else books other)) → PoolStands told' volumes' books' known cells
quiet_stands {told' = told'} {volumes' = volumes'} {books' = books'} {known = known} {cells = cells} stands id valid reaches same_volumes leads changed =
    subst (PoolStands told' volumes' books' known) (with_cell-same cells id) (pool_stands stands id valid reaches same_volumes leads changed)

-- two quiet tenures, one after the other
pub both_quiet : {cells : Cells} {Stood Between StandsFor : Knowledge → Cells → Type 0} {past mid since : ℕ → Files → Type 0} →
    IsQuiet cells Stood Between past mid × AddsOnly past mid OneWhole → IsQuiet cells Between StandsFor mid since × AddsOnly mid since OneWhole →
    IsQuiet cells Stood StandsFor past since × AddsOnly past since OneWhole
both_quiet (first, first_whole) (second, second_whole) = (
  record {
    stands = λ known old. second.stands known (first.stands known old);
    images = adds_join first.images second.images;
    sound_images = λ old. adds_join (first.sound_images old) (second.sound_images (first.stands matching old));
  },
  adds_join first_whole second_whole,
)
