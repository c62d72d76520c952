-- What the start of a fresh write leaves, at each of its exits.
use Rattle.std.proofs.Common.{◌≡◌, inl, inr, ℕ, List, [], Option, None, Some, IfSome, option_map, refl, sym, ◌∙◌, ap, subst, arith, IsFalse, IsTrue}
use Rattle.std.proofs.lemmas.Bool.{cases_Bool}
use Rattle.disk_model.specs.Worlds.{World}
use Rattle.disk_model.specs.Told.{NoDraftAt}
use Rattle.volume_layout.specs.Paths.{IsBlockId, IsStamp}
use Rattle.map_model.specs.Cells.{Cell, Cells, absent, final, growing, unsure, waiting}
use Rattle.map_model.specs.Sound.{Knowledge, Fits}
use Rattle.map_model.specs.Steps.{Room, Step, CarriedOut, start_write, write_refusal, Reply, memory}
use Rattle.volume_layout.specs.declared.block_file.BlockFile.{BlockFile}
use Rattle.volume_layout.specs.declared.block_file.BlockFile.TheVariants.{WritingBlock, WritingMeta}
use Rattle.volume_layout.specs.BlockFiles.{is_file, path_of}
use Rattle.map_model.specs.Slots.{is_standing, View, view_of, create_in}
use Rattle.map_model.specs.Stands.{is_final, is_waiting, Agrees, WritesOver, IsInDoubt, Each, Leftover, BlockBooks, BlockStands}
use Rattle.map_model.specs.Tenures.{books_of, Writer, writer_entry, written_books, both_created, StartsWrite, started}
use Rattle.map_model.proofs.StartWrite.{start_write_stands}
use Rattle.map_model.proofs.Bridge.{view_free}
use Rattle.map_model.specs.Allows.{Allows}
use Rattle.replica_map.specs.declared.entry.Entry.{Entry}
use Rattle.replica_map.specs.declared.entry.Grown.{Grown}
use Rattle.replica_map.specs.declared.entry.State.{State}
use Rattle.replica_map.specs.declared.entry.State.TheVariants.{Finalised, Writing, Unsure, Waiting}
use Rattle.pool_state.specs.declared.start_fault.StartFault.{StartFault}
use Rattle.pool_state.specs.declared.start_fault.StartFault.TheVariants.{Exists, None as NoBlock, Writing as RefusedWriting, Waiting as RefusedWaiting, Unsure as RefusedUnsure, Full, TooLong, Worn, Failed, Memory}
use Rattle.pool_state.specs.Answers.{start_fault, write_fault}
use Rattle.pool_state.specs.Books.{entry_state, book_entry}
use Rattle.pool_state.specs.BookSteps.{BooksNotStarted}
use Rattle.pool_state.specs.Rooms.{Choosing}
use Rattle.pool_state.specs.Stands.{IsVolume, PoolStands}
use Rattle.pool_state.specs.Reaching.{Reaches, ComesFrom, Then}
use Rattle.pool_state.proofs.Changing.{Leads}
use Rattle.pool_state.proofs.Showing.{Passes, passes}

-- no entry means absent
pub absent_cell : (cell : Cell) → Agrees None cell → cell ≡ absent
absent_cell absent agrees = refl
absent_cell (final replica) agrees = absurd agrees
absent_cell (growing stamp base bytes left) agrees = absurd agrees
absent_cell (unsure x y cut) agrees = absurd agrees
absent_cell waiting agrees = absurd agrees

final_refused : (grown : Option Grown) (state : State) → entry_state grown state ≡ is_final → write_fault state ≡ Exists
final_refused grown Finalised same = refl
final_refused grown Writing same = absurd cc
final_refused grown Unsure same = absurd cc
final_refused grown Waiting same = absurd cc

growing_refused : (grown : Option Grown) (state : State) (stamp : ℕ) (base : _) → WritesOver (entry_state grown state) base stamp → write_fault state ≡ RefusedWriting
growing_refused grown Finalised stamp base over = absurd over
growing_refused grown Writing stamp base over = refl
growing_refused grown Unsure stamp base over = absurd over
growing_refused grown Waiting stamp base over = absurd over

unsure_refused : (grown : Option Grown) (state : State) → IsInDoubt (entry_state grown state) → write_fault state ≡ RefusedUnsure
unsure_refused grown Finalised doubt = absurd doubt
unsure_refused grown Writing doubt = absurd doubt
unsure_refused grown Unsure doubt = refl
unsure_refused grown Waiting doubt = absurd doubt

waiting_refused : (grown : Option Grown) (state : State) → entry_state grown state ≡ is_waiting → write_fault state ≡ RefusedWaiting
waiting_refused grown Finalised same = absurd cc
waiting_refused grown Writing same = absurd cc
waiting_refused grown Unsure same = absurd cc
waiting_refused grown Waiting same = refl

-- the answer to the start of a block that has an entry is the cell's refusal
pub refused_step : (room : Room) (cell : Cell) (grown : Option Grown) (entry : Entry) (stamp need : ℕ) → Agrees (Some (book_entry grown entry)) cell →
    Step room cell (start_write stamp need) (start_fault (write_fault entry.state)) cell
refused_step room absent grown entry stamp need agrees = absurd agrees
refused_step room (final replica) grown entry stamp need agrees = (ap start_fault (final_refused grown entry.state agrees.0), refl)
refused_step room (growing now base bytes left) grown entry stamp need agrees = (ap start_fault (growing_refused grown entry.state now base agrees.2), refl)
refused_step room (unsure x y cut) grown entry stamp need agrees = (ap start_fault (unsure_refused grown entry.state agrees), refl)
refused_step room waiting grown entry stamp need agrees = (ap start_fault (waiting_refused grown entry.state agrees), refl)

-- which is neither a failure nor want of memory
pub no_failure : (state : State) → (write_fault state ≡ Failed → ⊥) × (write_fault state ≡ Memory → ⊥)
no_failure Finalised = (λ same. cc, λ same. cc)
no_failure Writing = (λ same. cc, λ same. cc)
no_failure Unsure = (λ same. cc, λ same. cc)
no_failure Waiting = (λ same. cc, λ same. cc)

pub refused_so : (state : State) (fault : StartFault) → fault ≡ write_fault state → (fault ≡ Failed → ⊥) × (fault ≡ Memory → ⊥)
refused_so state fault is = (λ e. (no_failure state).0 (sym is ∙ e), λ e. (no_failure state).1 (sym is ∙ e))

-- what the books say stays where a start is refused
pub refused_books : (fault : StartFault) (vol stamp need : ℕ) (choosing : Choosing) (books : BlockBooks) → (fault ≡ Failed → ⊥) × (fault ≡ Memory → ⊥) →
    BooksNotStarted fault vol stamp need choosing choosing books books
refused_books Exists vol stamp need choosing books so = (refl, refl)
refused_books NoBlock vol stamp need choosing books so = (refl, refl)
refused_books RefusedWriting vol stamp need choosing books so = (refl, refl)
refused_books RefusedWaiting vol stamp need choosing books so = (refl, refl)
refused_books RefusedUnsure vol stamp need choosing books so = (refl, refl)
refused_books (Full n free) vol stamp need choosing books so = (refl, refl)
refused_books (TooLong limit) vol stamp need choosing books so = (refl, refl)
refused_books Worn vol stamp need choosing books so = (refl, refl)
refused_books Failed vol stamp need choosing books so = absurd (so.0 refl)
refused_books Memory vol stamp need choosing books so = absurd (so.1 refl)

-- a start that finds room
absent_step : (room : Room) (need stamp : ℕ) (reply : Reply) (after : Cell) → write_refusal room absent need ≡ None → CarriedOut absent (start_write stamp need) reply after →
    Step room absent (start_write stamp need) reply after
absent_step room need stamp reply after fits out = rw fits out

-- and one that finds none
pub no_room_step : (room : Room) (need stamp : ℕ) (cell : Cell) (refused : Option StartFault) → option_map start_fault refused ≡ write_refusal room absent need → cell ≡ absent →
    IfSome refused (λ fault. Step room cell (start_write stamp need) (start_fault fault) cell)
no_room_step room need stamp cell None is same = tt
no_room_step room need stamp cell (Some fault) is same =
    subst (λ c. Step room c (start_write stamp need) (start_fault fault) c) (sym same) (rw (sym is) (refl, refl))

pub fits_by : (room : Room) (need : ℕ) (refused : Option StartFault) → option_map start_fault refused ≡ write_refusal room absent need → refused ≡ None → write_refusal room absent need ≡ None
fits_by room need refused is none = sym is ∙ ap (option_map start_fault) none

module _ {told : Option (List World)} {volumes : ℕ} {books : ℕ → BlockBooks} {cells : Cells} {known : Knowledge} (stands : PoolStands told volumes books known cells)
    (id : ℕ) (valid : IsBlockId id) (none : books id ≡ books_of None [] None) where
  pub is_absent : cells id ≡ absent
  is_absent = absent_cell (cells id) (subst (λ (b : BlockBooks). Agrees b.entry (cells id)) none (stands.fit id valid).agrees)

  -- the block's files in a world are those of an absent one
  own_absent : (view : View) → BlockStands (Fits known id) view (books id) (cells id) → BlockStands (Fits known id) view (books_of None [] None) absent
  own_absent view own = subst (BlockStands (Fits known id) view (books_of None [] None)) is_absent (subst (λ b. BlockStands (Fits known id) view b (cells id)) none own)

  bare : (view : View) → BlockStands (Fits known id) view (books_of None [] None) absent → (vol : ℕ) (f : BlockFile) → IsFalse (is_standing (view vol f))
  bare view own vol f = elim (cases_Bool (is_standing (view vol f))) [
    | inl stands_there ↦ elim (own.accounted vol f stands_there) [
      | inl (inl names) ↦ absurd names
      | inl (inr names) ↦ absurd names
      | inr listed ↦ absurd listed
    ]
    | inr not ↦ not
  ]

  -- no draft stands at any of its files
  pub start_free : (vol : ℕ) (f : BlockFile) → IsTrue (is_file f) → NoDraftAt told vol (path_of id f)
  start_free vol f is world there =
      view_free world id vol f is (bare (view_of world id) (own_absent (view_of world id) (stands.blocks world there id valid)) vol f)

  -- nor at its meta file once its block's draft stands
  pub start_free_meta : (told' : Option (List World)) (vol number stamp : ℕ) → IsStamp stamp → IsTrue (is_file (WritingMeta stamp)) →
      Reaches id (λ before after. after ≡ create_in before vol WritingBlock number) told told' → NoDraftAt told' vol (path_of id (WritingMeta stamp))
  start_free_meta told' vol number stamp stamped is reaches world there =
      let from : ComesFrom id (λ before after. after ≡ create_in before vol WritingBlock number) told world = reaches.each world there in
      let empty = bare (view_of from.was id) (own_absent (view_of from.was id) (stands.blocks from.was from.is id valid)) vol (WritingMeta stamp) in
      view_free world id vol (WritingMeta stamp) is (subst (λ (v : View). IsFalse (is_standing (v vol (WritingMeta stamp)))) (sym from.stepped) empty)

  -- a start that is not refused
  pub step_of : (room : Room) (stamp need : ℕ) (reply : Reply) (after : Cell) → write_refusal room absent need ≡ None → CarriedOut absent (start_write stamp need) reply after →
      Step room (cells id) (start_write stamp need) reply after
  step_of room stamp need reply after fits out = subst (λ c. Step room c (start_write stamp need) reply after) (sym is_absent) (absent_step room need stamp reply after fits out)

  -- want of memory is an answer, and leaves it absent
  pub memory_step : (room : Room) (stamp need : ℕ) → write_refusal room absent need ≡ None → Step room (cells id) (start_write stamp need) memory (cells id)
  memory_step room stamp need fits = subst (λ c. Step room c (start_write stamp need) memory c) (sym is_absent) (absent_step room need stamp memory absent fits (inl refl))

  module _ (w : Writer) (stamped : IsStamp w.stamp) (placed : IsVolume volumes w.vol) where
    -- a start that failed leads to a block that waits with what may stand of it
    pub start_waits : (step : View → View → Type 0) (left : List Leftover) → Each (λ l. IsVolume volumes l.vol) left →
        ((before after : View) → step before after → StartsWrite before None w after (books_of (Some (writer_entry w is_waiting)) left None) waiting) →
        Leads known id volumes step (books id) (cells id) (books_of (Some (writer_entry w is_waiting)) left None) waiting
    start_waits step left left_placed starts = record {
      fit = record { agrees = refl; placed = placed; left_placed = left_placed; clean = λ not. absurd not; fresh = refl };
      own = λ before after stepped own. start_write_stands (Fits known id) before None w after (books_of (Some (writer_entry w is_waiting)) left None) waiting
          (own_absent before own) stamped tt (starts before after stepped);
    }

    -- meanwhile nothing is read of it
    pub waits_passes : {step : View → View → Type 0} {left : List Leftover} (cell : Cell) → Leads known id volumes step (books id) (cells id) (books_of (Some (writer_entry w is_waiting)) left None) waiting →
        Passes stands id valid step cell
    waits_passes cell leads = passes stands id valid leads (λ read allows. inl (subst (λ c. Allows c read) (sym is_absent) allows))

    -- both drafts stand: the block grows
    pub start_grows : Leads known id volumes (Then (λ v after. after ≡ create_in v w.vol WritingBlock w.block_number) (λ v after. after ≡ create_in v w.vol (WritingMeta w.stamp) w.meta_number))
        (books id) (cells id) (written_books None [] None w) (growing w.stamp None [] w.len)
    start_grows = record {
      fit = record { agrees = (refl, omega arith, tt); placed = placed; left_placed = tt; clean = λ not. refl; fresh = refl };
      own = λ before after stepped own.
          subst (λ v. BlockStands (Fits known id) v (written_books None [] None w) (growing w.stamp None [] w.len))
          (sym (stepped.2 ∙ ap (λ v. create_in v w.vol (WritingMeta w.stamp) w.meta_number) stepped.1))
          (start_write_stands (Fits known id) before None w (both_created before w) (written_books None [] None w)
          (growing w.stamp None [] w.len) (own_absent before own) stamped tt started);
    }
