-- What a tenure of a pool does, in the pool before and after it.
use Rattle.std.specs.Prelude.{ℕ, ◌≡◌, ◌<◌, ◌⊎◌, false, List, [], Option, Some, None, Result, Err, IsOk, IsErr, IsErrOf}
use Rattle.disk_model.specs.declared.disks.PoolDisks.{Ghosts}
use Rattle.disk_model.specs.declared.disks.Draft as drafts
use Rattle.disk_model.specs.declared.disks.SealedDraft as sealed
use Rattle.disk_model.specs.declared.disks.Reader as readers
use Rattle.disk_model.specs.Marks.{GivenBetween}
use Rattle.disk_model.specs.Moments.{AddsOnly}
use Rattle.map_model.specs.Copies.{OneWhole}
use Rattle.map_model.specs.Cells.{Replica, Cell, Cells, absent, final, growing, unsure, waiting}
use Rattle.map_model.specs.Sound.{Knowledge, learned}
use Rattle.map_model.specs.Steps.{Command, Reply, start_write, finish, drop_write, delete, half_deleted}
use Rattle.pair_draft.specs.declared.writer.SealedPair.{SealedPair}
use Rattle.pair_draft.specs.declared.writer.Writing.{Writing}
use Rattle.pair_draft.specs.Writers.{writer_of, pair_of}
use Rattle.pool_state.specs.Books.{block_books}
use Rattle.pool_state.specs.Writers.{WriterStands, PairStands}
use Rattle.pool_state.specs.declared.pool_record.Pool.{Pool}
use Rattle.pool_state.specs.Answers.{TakesStep, IsQuiet, start_reply, finish_reply, delete_reply}
use Rattle.pool_state.specs.declared.start_fault.StartFault.{StartFault}
use Rattle.pool_state.specs.declared.start_fault.StartFault.TheVariants.{Failed as StartFailed, Memory as StartMemory}
use Rattle.pool_state.specs.declared.deleting.DeleteFault.{DeleteFault}
use Rattle.pool_state.specs.declared.deleting.DeleteFault.TheVariants.{Writing as IsWrittenNow, Failed}
use Rattle.replica_map.specs.declared.entry.State.{State}
use Rattle.replica_map.specs.declared.entry.State.TheVariants.{Finalised, Writing as InWriting, Unsure, Waiting}
use Rattle.pool_state.specs.Stands.{Stands}
use Rattle.pool_state.specs.Rooms.{choosing_of, room_of, volume_for}
use Rattle.pool_state.specs.BookSteps.{BooksStarted}

-- why a block whose entry is in this state can't be deleted
abbrev pub state_refusal : State → Option DeleteFault
state_refusal Finalised = None
state_refusal InWriting = Some IsWrittenNow
state_refusal Unsure = None
state_refusal Waiting = None

-- the cell that the end of a write of this replica leaves
abbrev pub EndsAs : {U E : Type 0} → Result U E → Replica → Cell → Type 0
EndsAs result replica cell = (IsErr result → cell ≡ unsure None (Some replica) false) × (IsOk result → cell ≡ final replica)

module _ {D S T R : Type 0} {g : Ghosts D S T R} {d : drafts.Ghosts T S} {s : sealed.Ghosts S} {r : readers.Ghosts R} where
  -- it takes a step of the cells, and so much more is known of meta files then
  abbrev pub TakesLearning : (Knowledge → Knowledge) → (id : ℕ) → Command → Reply → (Cell → Type 0) → Cells → (old new : Pool D S T R g d s r) → Type 0
  TakesLearning learn id command answer Says cells old new =
      TakesStep (room_of old) id command answer Says cells (Stands old) (λ known. Stands new (learn known)) (g.left_since old.disks) (g.left_since new.disks)

  -- it takes a step of the cells
  abbrev pub Takes : (id : ℕ) → Command → Reply → (Cell → Type 0) → Cells → (old new : Pool D S T R g d s r) → Type 0
  Takes id command answer Says cells old new = TakesLearning (λ known. known) id command answer Says cells old new

  -- the sealed pair belongs to the pool, and these are its bytes
  abbrev pub PairBelongs : Pool D S T R g d s r → SealedPair D S T R → List ℕ → Type 0
  PairBelongs pool pair = PairStands (g.worlds pool.disks) (block_books pool.map) (pair_of s.place s.bytes pair)

  -- it ends a fresh write of these bytes: the block is that replica, or in doubt, and its meta file is known to be this
  -- one
  abbrev pub Finishes : {U E : Type 0} → (id stamp : ℕ) → Result U E → (bytes meta : List ℕ) → Cells → (old new : Pool D S T R g d s r) → Type 0
  Finishes id stamp result bytes meta cells old new =
      TakesLearning (learned id stamp meta) id finish (finish_reply result) (EndsAs result (record { stamp = stamp; bytes = bytes })) cells old new

  -- a number was given between the two pools
  abbrev pub GivesNumber : (old new : Pool D S T R g d s r) → ℕ → Type 0
  GivesNumber old new number = GivenBetween (g.next_number old.disks) (g.next_number new.disks) number

  -- what the start of a fresh write leaves of an absent block: where it failed, or a draft had been created, the block
  -- waits, and else it stays or grows
  abbrev pub StartLeaves : {W : Type 0} → Result W StartFault → (stamp need : ℕ) → (old new : Pool D S T R g d s r) → (before cell : Cell) → Type 0
  StartLeaves result stamp need old new before cell =
      (result ≡ Err StartFailed → cell ≡ waiting)
      × (result ≡ Err StartMemory → cell ≡ waiting → g.next_number old.disks < g.next_number new.disks)
      × (IsErr result → (cell ≡ before) ⊎ (cell ≡ waiting))
      × (IsOk result → cell ≡ growing stamp None [] need)

  -- it starts a fresh write
  abbrev pub Starts : {W : Type 0} → (id stamp need : ℕ) → Result W StartFault → Cells → (old new : Pool D S T R g d s r) → Type 0
  Starts id stamp need result cells old new =
      Takes id (start_write stamp need) (start_reply result) (StartLeaves result stamp need old new (cells id)) cells old new

  -- and this is what it does to the books of its block, and to what the pool chooses by
  abbrev pub StartsBooks : {W : Type 0} → (id stamp need : ℕ) → Result W StartFault → (old new : Pool D S T R g d s r) → Type 0
  StartsBooks id stamp need result old new =
      BooksStarted result (volume_for old need) stamp need (choosing_of old) (choosing_of new) (block_books old.map id) (block_books new.map id)

  -- what it chooses by stays
  abbrev pub ChoosesAsBefore : (old new : Pool D S T R g d s r) → Type 0
  ChoosesAsBefore old new = choosing_of new ≡ choosing_of old

  -- the writer belongs to the pool, and these bytes were pushed
  abbrev pub IsWriterOf : Pool D S T R g d s r → Writing D S T R → List ℕ → Type 0
  IsWriterOf pool writer bytes = WriterStands (g.worlds pool.disks) (block_books pool.map) (writer_of d.place d.bytes writer) bytes

  -- it drops a fresh writer: the block is absent, or waits
  abbrev pub Drops : {U E : Type 0} → (id : ℕ) → Result U E → Cells → (old new : Pool D S T R g d s r) → Type 0
  Drops id result cells old new = Takes id drop_write (finish_reply result)
      (λ cell. (IsErr result → cell ≡ waiting) × (IsOk result → cell ≡ absent)) cells old new

  -- it leaves the cells
  abbrev pub Rests : Cells → (old new : Pool D S T R g d s r) → Type 0
  Rests cells old new = IsQuiet cells (Stands old) (Stands new) (g.left_since old.disks) (g.left_since new.disks)

  -- it deletes a block: the block is absent, or what a deletion that failed leaves
  abbrev pub Deletes : {U : Type 0} → (id : ℕ) → Result U DeleteFault → Cells → (old new : Pool D S T R g d s r) → Type 0
  Deletes id result cells old new = Takes id delete (delete_reply result)
      (λ cell. (IsErrOf result Failed → cell ≡ half_deleted (cells id)) × (IsOk result → cell ≡ absent)) cells old new

  -- of each block that has a copy in an image that a crash could leave meanwhile, one whole copy stands alone
  abbrev pub KeepsWhole : (old new : Pool D S T R g d s r) → Type 0
  KeepsWhole old new = AddsOnly (g.left_since old.disks) (g.left_since new.disks) OneWhole
