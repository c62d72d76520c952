-- What a tenure answers, and the step that it takes.
use Rattle.std.specs.Prelude.{ℕ, ◌⊎◌, Option, Result, Ok, Err, IsSomeAnd}
use Rattle.disk_model.specs.Files.{Files}
use Rattle.disk_model.specs.Moments.{AddsOnly}
use Rattle.map_model.specs.Allows.{AllowsImage}
use Rattle.map_model.specs.Sound.{Knowledge, matching, IsSound}
use Rattle.map_model.specs.Cells.{Cell, Cells}
use Rattle.map_model.specs.Steps.{Command, Room, Step}
use Rattle.map_model.specs.Steps.{Reply, done, exists, no_block, is_writing, is_waiting, is_unsure, full, too_long, worn, failed, memory}
use Rattle.pool_state.specs.declared.start_fault.StartFault.{StartFault}
use Rattle.pool_state.specs.declared.start_fault.StartFault.TheVariants.{Exists, None as NoBlock, Writing, Waiting, Unsure, Full, TooLong, Worn, Failed, Memory}
use Rattle.pool_state.specs.declared.deleting.DeleteFault.{DeleteFault}
use Rattle.pool_state.specs.declared.deleting.DeleteFault.TheVariants.{None as NotThere, Writing as IsWrittenNow, Failed as RemovalFailed}
use Rattle.replica_map.specs.declared.entry.State.{State}
use Rattle.replica_map.specs.declared.entry.State.TheVariants.{Finalised, Writing as InWriting, Unsure as InDoubt, Waiting as InWaiting}
use Rattle.map_model.specs.Stands.{EntryState, is_written, Entry}
use Rattle.pool_state.specs.Stands.{with_cell}

-- the reply that a refused or failed start is
abbrev pub start_fault : StartFault → Reply
start_fault Exists = exists
start_fault NoBlock = no_block
start_fault Writing = is_writing
start_fault Waiting = is_waiting
start_fault Unsure = is_unsure
start_fault (Full need free) = full need free
start_fault (TooLong limit) = too_long limit
start_fault Worn = worn
start_fault Failed = failed
start_fault Memory = memory

-- why a block whose entry is in this state can't be written
abbrev pub write_fault : State → StartFault
write_fault Finalised = Exists
write_fault InWriting = Writing
write_fault InDoubt = Unsure
write_fault InWaiting = Waiting

-- why a block whose entry is in this state can't be read, unless it is that of a replica
abbrev pub read_fault : State → StartFault
read_fault Finalised = NoBlock
read_fault InWriting = Writing
read_fault InDoubt = Unsure
read_fault InWaiting = Waiting

-- the reply that the answer of a start is
abbrev pub start_reply : {W : Type 0} → Result W StartFault → Reply
start_reply (Ok writer) = done
start_reply (Err fault) = start_fault fault

-- the reply that the answer of a finish, or of the drop of a writer, is
abbrev pub finish_reply : {T E : Type 0} → Result T E → Reply
finish_reply (Ok nothing) = done
finish_reply (Err failure) = failed

-- the reply that the answer of a deletion is
abbrev pub delete_fault : DeleteFault → Reply
delete_fault NotThere = no_block
delete_fault IsWrittenNow = is_writing
delete_fault RemovalFailed = failed

abbrev pub delete_reply : {T : Type 0} → Result T DeleteFault → Reply
delete_reply (Ok nothing) = done
delete_reply (Err fault) = delete_fault fault

-- One of two lists of cells allows the image.
abbrev pub AllowedByEither : Cells → Cells → Files → Type 0
AllowedByEither before after image = AllowsImage before image ⊎ AllowsImage after image

-- A step of the cells, with so much room: the block's cell becomes one that the command, answered so, may leave and of
-- which more is said; and what stood for the cells then stands for the new ones.
pub record StepsTo (room : Room) (id : ℕ) (command : Command) (answer : Reply) (Says : Cell → Type 0) (cells : Cells) (Stood StandsFor : Knowledge → Cells → Type 0) : Type 0 where
  pub cell : Cell
  pub step : Step room (cells id) command answer cell
  pub says : Says cell
  pub stands : (known : Knowledge) → Stood known cells → StandsFor known (with_cell cells id cell)

-- A tenure takes a step of the cells; and every image that a crash can leave meanwhile is allowed by the cells before
-- or after, and is sound where each meta matched.
pub record TakesStep (room : Room) (id : ℕ) (command : Command) (answer : Reply) (Says : Cell → Type 0) (cells : Cells)
    (Stood StandsFor : Knowledge → Cells → Type 0) (past since : ℕ → Files → Type 0) : Type 0 where
  pub to : StepsTo room id command answer Says cells Stood StandsFor
  pub images : AddsOnly past since (AllowedByEither cells (with_cell cells id to.cell))
  pub sound_images : Stood matching cells → AddsOnly past since IsSound

-- A tenure is quiet: what stood for the cells stands for them, and every image that a crash can leave meanwhile is
-- allowed by them, and is sound where each meta matched.
pub record IsQuiet (cells : Cells) (Stood StandsFor : Knowledge → Cells → Type 0) (past since : ℕ → Files → Type 0) : Type 0 where
  pub stands : (known : Knowledge) → Stood known cells → StandsFor known cells
  pub images : AddsOnly past since (AllowsImage cells)
  pub sound_images : Stood matching cells → AddsOnly past since IsSound

-- the entry is that of an open writer
abbrev pub IsWritingState : EntryState → Type 0
IsWritingState (is_written base block meta) = Unit {0}
IsWritingState state = ⊥

abbrev pub IsWritten : Option Entry → Type 0
IsWritten entry = IsSomeAnd entry (λ e. IsWritingState e.state)
