-- What the deletion of a block leaves.
use Rattle.std.proofs.Common.{◌≡◌, inl, inr, ℕ, Bool, true, false, List, [], ◌∷◌, Option, None, Some, refl, sym, ◌∙◌, ap, subst, IfSome}
use Rattle.std.proofs.lemmas.Bool.{false≢true}
use Rattle.disk_model.specs.Files.{Files}
use Rattle.disk_model.specs.Worlds.{World}
use Rattle.disk_model.specs.Moments.{AddsOnly}
use Rattle.map_model.specs.Copies.{OneWhole}
use Rattle.volume_layout.specs.Paths.{IsBlockId}
use Rattle.map_model.specs.Cells.{Replica, Cell, Cells, absent, final, growing, unsure, waiting}
use Rattle.map_model.specs.Allows.{Allows}
use Rattle.map_model.specs.Sound.{Knowledge, Fits}
use Rattle.map_model.specs.Steps.{Room, Step, delete, failed, done, is_writing, delete_refusal}
use Rattle.volume_layout.specs.declared.block_file.BlockFile.{BlockFile}
use Rattle.volume_layout.specs.declared.block_file.BlockFile.TheVariants.{Block, Meta, WritingBlock, WritingMeta}
use Rattle.map_model.specs.Slots.{View}
use Rattle.map_model.specs.Stands.{Entry, Agrees, WritesOver, IsInDoubt, is_final, in_doubt, is_waiting, BlockBooks, BlockStands}
use Rattle.map_model.specs.Tenures.{books_of, doubtful, deleted, delete_failed}
use Rattle.map_model.proofs.Delete.{delete_final_stands, delete_unsure_stands, delete_waiting_stands}
use Rattle.replica_map.specs.declared.entry.Entry.{Entry as MapEntry}
use Rattle.replica_map.specs.declared.entry.Grown.{Grown}
use Rattle.replica_map.specs.declared.entry.State.{State}
use Rattle.replica_map.specs.declared.entry.State.TheVariants.{Finalised, Writing, Unsure, Waiting}
use Rattle.pool_state.specs.Answers.{delete_fault, IsQuiet, TakesStep}
use Rattle.pool_state.proofs.AnyRoom.{any_room}
use Rattle.pool_state.specs.Tenures.{state_refusal}
use Rattle.pool_state.specs.declared.deleting.DeleteFault.{DeleteFault}
use Rattle.pool_state.specs.Books.{entry_state, book_entry}
use Rattle.pool_state.specs.Reaching.{Stays, RemovesSome, RemovesAll, RemovesFiles}
use Rattle.pool_state.specs.Stands.{with_cell, IsVolume, PoolStands}
use Rattle.pool_state.proofs.Changing.{Leads, with_cell-same}
use Rattle.pool_state.proofs.Showing.{Shown, Passes, passes, passes_end, shown, adds_less}
use Rattle.pool_state.proofs.Lending.{final_cell}

-- the entry of a block in doubt is that of an unsure cell
pub unsure_cell : (cell : Cell) (e : Entry) → e.state ≡ in_doubt None → Agrees (Some e) cell → (x : Option Replica) × (y : Option Replica) × (cut : Bool) × (cell ≡ unsure x y cut)
unsure_cell absent e is agrees = absurd agrees
unsure_cell (final replica) e is agrees = let bad : in_doubt None ≡ is_final = sym is ∙ agrees.0 in absurd cc
unsure_cell (growing stamp base bytes left) e is agrees = absurd (subst (λ st. WritesOver st base stamp) is agrees.2)
unsure_cell (unsure x y cut) e is agrees = (x, y, cut, refl)
unsure_cell waiting e is agrees = let bad : in_doubt None ≡ is_waiting = sym is ∙ agrees in absurd cc

-- that of a block that waits is that of a waiting cell
pub waiting_cell : (cell : Cell) (e : Entry) → e.state ≡ is_waiting → Agrees (Some e) cell → cell ≡ waiting
waiting_cell absent e is agrees = absurd agrees
waiting_cell (final replica) e is agrees = let bad : is_waiting ≡ is_final = sym is ∙ agrees.0 in absurd cc
waiting_cell (growing stamp base bytes left) e is agrees = absurd (subst (λ st. WritesOver st base stamp) is agrees.2)
waiting_cell (unsure x y cut) e is agrees = absurd (subst (λ st. IsInDoubt st) is agrees)
waiting_cell waiting e is agrees = refl

-- ---- what is refused

-- an open writer refuses the deletion
pub writing_step : (cell : Cell) (grown : Option Grown) (e : MapEntry) → e.state ≡ Writing → Agrees (Some (book_entry grown e)) cell → Step any_room cell delete is_writing cell
writing_step absent grown e is agrees = absurd agrees
writing_step (final replica) grown e is agrees = let bad : entry_state grown Writing ≡ is_final = sym (ap (entry_state grown) is) ∙ agrees.0 in absurd cc
writing_step (growing stamp base bytes left) grown e is agrees = (refl, refl)
writing_step (unsure x y cut) grown e is agrees = absurd (subst (λ st. IsInDoubt (entry_state grown st)) is agrees)
writing_step waiting grown e is agrees = let bad : entry_state grown Writing ≡ is_waiting = sym (ap (entry_state grown) is) ∙ agrees in absurd cc

-- an entry that is not being written is that of a cell which can be deleted
written_free : (grown : Option Grown) (state : State) (base : Option Replica) (stamp : ℕ) → state_refusal state ≡ None → WritesOver (entry_state grown state) base stamp → ⊥
written_free grown Finalised base stamp is over = over
written_free grown Writing base stamp is over = absurd cc
written_free grown Unsure base stamp is over = over
written_free grown Waiting base stamp is over = over

refused_by : (cell : Cell) (grown : Option Grown) (e : MapEntry) (state : State) → e.state ≡ state → Agrees (Some (book_entry grown e)) cell →
    IfSome (state_refusal state) (λ fault. Step any_room cell delete (delete_fault fault) cell)
refused_by cell grown e Finalised is agrees = tt
refused_by cell grown e Writing is agrees = writing_step cell grown e is agrees
refused_by cell grown e Unsure is agrees = tt
refused_by cell grown e Waiting is agrees = tt

pub refused_cell : (cell : Cell) (grown : Option Grown) (e : MapEntry) (result : Option DeleteFault) → result ≡ state_refusal e.state → Agrees (Some (book_entry grown e)) cell →
    IfSome result (λ fault. Step any_room cell delete (delete_fault fault) cell)
refused_cell cell grown e result is agrees = subst (λ o. IfSome o (λ fault. Step any_room cell delete (delete_fault fault) cell)) (sym is) (refused_by cell grown e e.state refl agrees)

pub free_cell : (cell : Cell) (grown : Option Grown) (e : MapEntry) → state_refusal e.state ≡ None → Agrees (Some (book_entry grown e)) cell → delete_refusal cell ≡ None
free_cell absent grown e is agrees = absurd agrees
free_cell (final replica) grown e is agrees = refl
free_cell (growing stamp base bytes left) grown e is agrees = absurd (written_free grown e.state base stamp is agrees.2)
free_cell (unsure x y cut) grown e is agrees = refl
free_cell waiting grown e is agrees = refl

-- removals show what their moments pass
pub adds_removals : {told : Option (List World)} {volumes : ℕ} {books : ℕ → BlockBooks} {known : Knowledge} {cells : Cells}
    (stands : PoolStands told volumes books known cells) (id : ℕ) (valid : IsBlockId id) {vol : ℕ} {files : List BlockFile} {done : Type 0} {new : Option (List World)} {past since : ℕ → Files → Type 0} →
    RemovesFiles id vol files done told new past since → (cell : Cell) → Passes stands id valid (RemovesSome vol files) cell → AddsOnly past since (Shown known cells (with_cell cells id cell))
adds_removals stands id valid {vol = vol} {files = files} removes cell passes t image s = elim (removes.moments t image s) [
  | inl earlier ↦ inl earlier
  | inr now ↦ inr (shown stands id valid (RemovesSome vol files) now.0 now.1 cell passes image now.2)
]

module _ {told : Option (List World)} {volumes : ℕ} {books : ℕ → BlockBooks} {known : Knowledge} {cells : Cells}
    (stands : PoolStands told volumes books known cells) (id : ℕ) (valid : IsBlockId id) (e : Entry) (has : books id ≡ books_of (Some e) [] None) where
  agrees_here : Agrees (Some e) (cells id)
  agrees_here = subst (λ (b : BlockBooks). Agrees b.entry (cells id)) has (stands.fit id valid).agrees

  pub entry_placed : IsVolume volumes e.vol
  entry_placed = subst (λ (b : BlockBooks). IfSome b.entry (λ x. IsVolume volumes x.vol)) has (stands.fit id valid).placed

  own_here : (view : View) → BlockStands (Fits known id) view (books id) (cells id) → BlockStands (Fits known id) view (books_of (Some e) [] None) (cells id)
  own_here view own = subst (λ b. BlockStands (Fits known id) view b (cells id)) has own

  -- a block that is gone
  goes : (step : View → View → Type 0) → ((before after : View) → step before after → BlockStands (Fits known id) before (books id) (cells id) → BlockStands (Fits known id) after (books_of None [] None) absent) →
      Leads known id volumes step (books id) (cells id) (books_of None [] None) absent
  goes step own = record { fit = record { agrees = tt; placed = tt; left_placed = tt; clean = λ not. refl; fresh = tt }; own = own }

  -- one that is in doubt
  doubts : (step : View → View → Type 0) (x y : Option Replica) (cut : Bool) → ((before after : View) → step before after → BlockStands (Fits known id) before (books id) (cells id) →
      BlockStands (Fits known id) after (books_of (Some (doubtful e None)) [] None) (unsure x y cut)) → Leads known id volumes step (books id) (cells id) (books_of (Some (doubtful e None)) [] None) (unsure x y cut)
  doubts step x y cut own = record { fit = record { agrees = tt; placed = entry_placed; left_placed = tt; clean = λ not. refl; fresh = refl }; own = own }

  -- OF A REPLICA
  module _ (is : e.state ≡ is_final) where
    pub replica_of : (replica : Replica) × (cells id ≡ final replica)
    replica_of = let cell = final_cell (cells id) e is agrees_here in (cell.0, cell.1)

    module _ (replica : Replica) (cell_is : cells id ≡ final replica) where
      abbrev pub final_files : List BlockFile
      final_files = Block ∷ Meta e.stamp ∷ []

      own_final : (view : View) → BlockStands (Fits known id) view (books id) (cells id) → BlockStands (Fits known id) view (books_of (Some e) [] None) (final replica)
      own_final view own = subst (BlockStands (Fits known id) view (books_of (Some e) [] None)) cell_is (own_here view own)

      -- some of its files are gone: it is in doubt
      pub final_doubts : Leads known id volumes (RemovesSome e.vol final_files) (books id) (cells id) (books_of (Some (doubtful e None)) [] None) (unsure (Some replica) None false)
      final_doubts = doubts (RemovesSome e.vol final_files) (Some replica) None false (λ before after some own.
          subst (λ v. BlockStands (Fits known id) v (books_of (Some (doubtful e None)) [] None) (unsure (Some replica) None false)) (sym some.1)
          (delete_final_stands (Fits known id) before None e replica (own_final before own) _ _ _ (delete_failed some.0)))

      -- all are
      pub final_goes : Leads known id volumes (RemovesAll e.vol final_files) (books id) (cells id) (books_of None [] None) absent
      final_goes = goes (RemovesAll e.vol final_files) (λ before after all own.
          subst (λ v. BlockStands (Fits known id) v (books_of None [] None) absent) (sym all)
          (delete_final_stands (Fits known id) before None e replica (own_final before own) _ _ _ deleted))

      -- what is shown meanwhile
      pub final_passes_doubt : Passes stands id valid (RemovesSome e.vol final_files) (unsure (Some replica) None false)
      final_passes_doubt = passes_end stands id valid final_doubts

      pub final_passes_absent : Passes stands id valid (RemovesSome e.vol final_files) absent
      final_passes_absent = passes stands id valid final_doubts (λ read allows. elim allows [
        | inl first ↦ inl (subst (λ c. Allows c read) (sym cell_is) first)
        | inr (inl second) ↦ inr second
        | inr (inr cut) ↦ absurd (false≢true cut.0)
      ])

  -- OF A BLOCK IN DOUBT
  module _ (is : e.state ≡ in_doubt None) where
    pub doubt_of : (x : Option Replica) × (y : Option Replica) × (cut : Bool) × (cells id ≡ unsure x y cut)
    doubt_of = unsure_cell (cells id) e is agrees_here

    module _ (x y : Option Replica) (cut : Bool) (cell_is : cells id ≡ unsure x y cut) where
      abbrev pub doubt_files : List BlockFile
      doubt_files = Block ∷ Meta e.stamp ∷ WritingBlock ∷ WritingMeta e.stamp ∷ []

      own_doubt : (view : View) → BlockStands (Fits known id) view (books id) (cells id) → BlockStands (Fits known id) view (books_of (Some e) [] None) (unsure x y cut)
      own_doubt view own = subst (BlockStands (Fits known id) view (books_of (Some e) [] None)) cell_is (own_here view own)

      pub doubt_stays : Leads known id volumes (RemovesSome e.vol doubt_files) (books id) (cells id) (books_of (Some (doubtful e None)) [] None) (unsure x y true)
      doubt_stays = doubts (RemovesSome e.vol doubt_files) x y true (λ before after some own.
          subst (λ v. BlockStands (Fits known id) v (books_of (Some (doubtful e None)) [] None) (unsure x y true)) (sym some.1)
          (delete_unsure_stands (Fits known id) before None e None x y cut is (own_doubt before own) _ _ _ (delete_failed some.0)))

      pub doubt_goes : Leads known id volumes (RemovesAll e.vol doubt_files) (books id) (cells id) (books_of None [] None) absent
      doubt_goes = goes (RemovesAll e.vol doubt_files) (λ before after all own.
          subst (λ v. BlockStands (Fits known id) v (books_of None [] None) absent) (sym all)
          (delete_unsure_stands (Fits known id) before None e None x y cut is (own_doubt before own) _ _ _ deleted))

      pub doubt_passes_cut : Passes stands id valid (RemovesSome e.vol doubt_files) (unsure x y true)
      doubt_passes_cut = passes_end stands id valid doubt_stays

      pub doubt_passes_absent : Passes stands id valid (RemovesSome e.vol doubt_files) absent
      doubt_passes_absent = passes stands id valid doubt_stays (λ read allows. elim allows [
        | inl first ↦ inl (subst (λ c. Allows c read) (sym cell_is) (inl first))
        | inr (inl second) ↦ inl (subst (λ c. Allows c read) (sym cell_is) (inr (inl second)))
        | inr (inr gone) ↦ inr gone.1
      ])

  -- OF A BLOCK THAT WAITS, once nothing of it is listed
  module _ (is : e.state ≡ is_waiting) where
    pub waits_here : cells id ≡ waiting
    waits_here = waiting_cell (cells id) e is agrees_here

    pub waiting_goes : Leads known id volumes Stays (books id) (cells id) (books_of None [] None) absent
    waiting_goes = goes Stays (λ before after stays own.
        subst (λ v. BlockStands (Fits known id) v (books_of None [] None) absent) (sym stays)
        (delete_waiting_stands (Fits known id) before None e
        (subst (BlockStands (Fits known id) before (books_of (Some e) [] None)) waits_here (own_here before own))))

-- a quiet tenure that failed to delete a block
pub quiet_failure : {room : Room} {Says : Cell → Type 0} {cells : Cells} {Stood StandsFor : Knowledge → Cells → Type 0} {past since : ℕ → Files → Type 0} (id : ℕ) → IsQuiet cells Stood StandsFor past since × AddsOnly past since OneWhole →
    Step any_room (cells id) delete failed (cells id) → Says (cells id) → TakesStep room id delete failed Says cells Stood StandsFor past since × AddsOnly past since OneWhole
quiet_failure {cells = cells} {StandsFor = StandsFor} id (quiet, whole) step says = (
  record {
    to = record { cell = cells id; step = step; says = says; stands = λ known old. subst (StandsFor known) (sym (with_cell-same cells id)) (quiet.stands known old) };
    images = adds_less quiet.images (λ image allows. inl allows);
    sound_images = quiet.sound_images;
  },
  whole,
)

-- a quiet tenure, and then the books forget the block
pub quiet_deletion : {room : Room} {Says : Cell → Type 0} {cells : Cells} {Stood Between StandsFor : Knowledge → Cells → Type 0} {past since : ℕ → Files → Type 0} (id : ℕ) → IsQuiet cells Stood Between past since × AddsOnly past since OneWhole →
    Step any_room (cells id) delete done absent → Says absent → ((known : Knowledge) → Between known cells → StandsFor known (with_cell cells id absent)) →
    TakesStep room id delete done Says cells Stood StandsFor past since × AddsOnly past since OneWhole
quiet_deletion id (quiet, whole) step says forgets = (
  record {
    to = record { cell = absent; step = step; says = says; stands = λ known old. forgets known (quiet.stands known old) };
    images = adds_less quiet.images (λ image allows. inl allows);
    sound_images = quiet.sound_images;
  },
  whole,
)
