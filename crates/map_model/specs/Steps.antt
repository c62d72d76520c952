-- What a command answers and does to its block's cell.
use Rattle.std.specs.Prelude.{ℕ, ◌+◌, ◌-◌, ◌≡◌, ◌≢◌, ◌⊎◌, Bool, true, false, IsTrue, nat_lt, nat_le, if◌then◌else◌, List, [], ◌∷◌, ◌++◌, length, Option, Some, None, MatchOption}
use Rattle.map_model.specs.Cells.{Replica, Cell, absent, final, growing, unsure, waiting, settled_cell, Cells}

pub data Command : Type 0 where
  start_write : (stamp need : ℕ) → Command
  start_append : (stamp more : ℕ) → Command
  push : (piece : List ℕ) → Command
  finish : Command
  drop_write : Command
  read : Command
  delete : Command
  write : (stamp : ℕ) (bytes : List ℕ) → Command
  append : (stamp : ℕ) (bytes : List ℕ) → Command

pub data Reply : Type 0 where
  done : Reply
  content : (replica : Replica) → Reply
  exists : Reply
  no_block : Reply
  is_writing : Reply
  is_waiting : Reply
  is_unsure : Reply
  old_stamp : (have : ℕ) → Reply
  full : (need free : ℕ) → Reply
  too_long : (limit : ℕ) → Reply
  failed : Reply
  memory : Reply
  over : (left : ℕ) → Reply
  no_writer : Reply
  worn : Reply

-- the answers that refuse a command
abbrev pub is_refusal : Reply → Bool
is_refusal done = false
is_refusal (content replica) = false
is_refusal failed = false
is_refusal memory = false
is_refusal reply = true

-- what the pool's books say to a start: the greatest length of a replica, the free room of the volume that has
-- most, that of the block's own volume, and whether no revision is left
pub record Room : Type 0 where
  pub limit : ℕ
  pub free : ℕ
  pub own_free : ℕ
  pub is_worn : Bool

-- the greatest length of a replica
abbrev pub max_length : ℕ
max_length = 134217728

-- the refusal of a start that needs so much room, after the cell's own
abbrev pub room_refusal : (limit need free : ℕ) → Bool → Option Reply
room_refusal limit need free is_worn =
    if nat_lt limit need then Some (too_long limit)
    else (if nat_lt free need then Some (full need free)
    else (if is_worn then Some worn else None))

-- the first refusal of a fresh write
abbrev pub write_refusal : Room → Cell → (need : ℕ) → Option Reply
write_refusal room absent need = room_refusal room.limit need room.free room.is_worn
write_refusal room (final replica) need = Some exists
write_refusal room (growing stamp base bytes left) need = Some is_writing
write_refusal room waiting need = Some is_waiting
write_refusal room (unsure x y cut) need = Some is_unsure

-- the first refusal of an append
abbrev pub append_refusal : Room → Cell → (stamp more : ℕ) → Option Reply
append_refusal room absent stamp more = Some no_block
append_refusal room (final replica) stamp more =
    if nat_le stamp replica.stamp then Some (old_stamp replica.stamp)
    else room_refusal room.limit (length replica.bytes + more) room.own_free room.is_worn
append_refusal room (growing now base bytes left) stamp more = Some is_writing
append_refusal room waiting stamp more = Some is_waiting
append_refusal room (unsure x y cut) stamp more = Some is_unsure

-- the refusal of a read
abbrev pub read_refusal : Cell → Option Reply
read_refusal absent = Some no_block
read_refusal (final replica) = None
read_refusal (growing stamp (Some base) bytes left) = None
read_refusal (growing stamp None bytes left) = Some is_writing
read_refusal waiting = Some is_waiting
read_refusal (unsure x y cut) = Some is_unsure

-- the refusal of a delete
abbrev pub delete_refusal : Cell → Option Reply
delete_refusal absent = Some no_block
delete_refusal (growing stamp base bytes left) = Some is_writing
delete_refusal (final replica) = None
delete_refusal waiting = None
delete_refusal (unsure x y cut) = None

-- the refusal of a command that needs a writer with so much room left
abbrev pub writer_refusal : Cell → (len : ℕ) → Option Reply
writer_refusal (growing stamp base bytes left) len = if nat_lt left len then Some (over left) else None
writer_refusal cell len = Some no_writer

-- the first refusal that applies to a command, or none
abbrev pub refusal : Room → Cell → Command → Option Reply
refusal room cell (start_write stamp need) = write_refusal room cell need
refusal room cell (start_append stamp more) = append_refusal room cell stamp more
refusal room cell (push piece) = writer_refusal cell (length piece)
refusal room cell finish = writer_refusal cell 0
refusal room cell drop_write = writer_refusal cell 0
refusal room cell read = read_refusal cell
refusal room cell delete = delete_refusal cell
refusal room cell (write stamp bytes) = write_refusal room cell (length bytes)
refusal room cell (append stamp bytes) = append_refusal room cell stamp (length bytes)

-- what a read gives
abbrev pub read_content : Cell → Option Replica
read_content (final replica) = Some replica
read_content (growing stamp base bytes left) = base
read_content cell = None

-- the answer of a command that is carried out
abbrev pub success : Cell → Command → Reply
success (final replica) read = content replica
success (growing stamp (Some base) bytes left) read = content base
success cell command = done

-- the cell after a command that is carried out, where the cell and the arguments allow it
abbrev pub cell_after : Cell → Command → Option Cell
cell_after absent (start_write stamp need) = Some (growing stamp None [] need)
cell_after absent (write stamp bytes) = Some (final (record { stamp = stamp; bytes = bytes }))
cell_after absent command = None
cell_after (final replica) (start_append stamp more) =
    if nat_lt replica.stamp stamp then Some (growing stamp (Some replica) replica.bytes more) else None
cell_after (final replica) (append stamp bytes) =
    if nat_lt replica.stamp stamp then Some (final (record { stamp = stamp; bytes = replica.bytes ++ bytes })) else None
cell_after (final replica) read = Some (final replica)
cell_after (final replica) delete = Some absent
cell_after (final replica) command = None
cell_after (growing stamp base bytes left) (push piece) =
    if nat_le (length piece) left then Some (growing stamp base (bytes ++ piece) (left - length piece)) else None
cell_after (growing stamp base bytes left) finish = Some (final (record { stamp = stamp; bytes = bytes }))
cell_after (growing stamp base bytes left) drop_write = Some (settled_cell base)
cell_after (growing stamp (Some base) bytes left) read = Some (growing stamp (Some base) bytes left)
cell_after (growing stamp base bytes left) command = None
cell_after (unsure x y cut) delete = Some absent
cell_after (unsure x y cut) command = None
cell_after waiting delete = Some absent
cell_after waiting command = None

-- what a writer that is given up leaves: its base, or files that wait to be deleted
abbrev pub given_up : Option Replica → Cell
given_up (Some base) = final base
given_up None = waiting

-- what a delete leaves that failed on the block's own files
abbrev pub half_deleted : Cell → Cell
half_deleted (final replica) = unsure (Some replica) None false
half_deleted (unsure x y cut) = unsure x y true
half_deleted cell = cell

-- what a device fault may leave of the cell
abbrev pub FailedLeaves : Cell → Command → Cell → Type 0
FailedLeaves cell (start_write stamp need) after = (after ≡ cell) ⊎ (after ≡ waiting)
FailedLeaves cell (start_append stamp more) after = after ≡ cell
FailedLeaves cell read after = after ≡ cell
FailedLeaves (growing stamp base bytes left) (push piece) after = after ≡ given_up base
FailedLeaves (growing stamp base bytes left) drop_write after = after ≡ given_up base
FailedLeaves (growing stamp base bytes left) finish after =
    (after ≡ given_up base) ⊎ (after ≡ unsure base (Some (record { stamp = stamp; bytes = bytes })) false)
FailedLeaves absent (write stamp bytes) after =
    (after ≡ absent) ⊎ ((after ≡ waiting) ⊎ (after ≡ unsure None (Some (record { stamp = stamp; bytes = bytes })) false))
FailedLeaves (final replica) (append stamp bytes) after =
    (after ≡ final replica)
    ⊎ (after ≡ unsure (Some replica) (Some (record { stamp = stamp; bytes = replica.bytes ++ bytes })) false)
FailedLeaves cell delete after = (after ≡ cell) ⊎ (after ≡ half_deleted cell)
FailedLeaves cell command after = ⊥

-- what want of memory may leave of the cell
abbrev pub MemoryLeaves : Cell → Command → Cell → Type 0
MemoryLeaves cell (start_write stamp need) after = (after ≡ cell) ⊎ (after ≡ waiting)
MemoryLeaves cell (write stamp bytes) after = (after ≡ cell) ⊎ (after ≡ waiting)
MemoryLeaves cell (start_append stamp more) after = after ≡ cell
MemoryLeaves cell (append stamp bytes) after = after ≡ cell
MemoryLeaves cell (push piece) after = after ≡ cell
MemoryLeaves cell finish after = after ≡ cell
MemoryLeaves cell read after = after ≡ cell
MemoryLeaves cell drop_write after = ⊥
MemoryLeaves cell delete after = ⊥

-- a command that no refusal stops
abbrev pub CarriedOut : Cell → Command → Reply → Cell → Type 0
CarriedOut cell command failed after = FailedLeaves cell command after
CarriedOut cell command memory after = MemoryLeaves cell command after
CarriedOut cell command reply after = (reply ≡ success cell command) × (cell_after cell command ≡ Some after)

-- One command: the first refusal that applies is the answer and changes nothing; else it is carried out.
abbrev pub Step : Room → Cell → Command → Reply → Cell → Type 0
Step room cell command reply after =
    MatchOption (refusal room cell command)
    (CarriedOut cell command reply after)
    (λ refused. (reply ≡ refused) × (after ≡ cell))

-- an answered command on a block, with the room that the books gave it
pub record Answered : Type 0 where
  pub id : ℕ
  pub room : Room
  pub command : Command
  pub reply : Reply

-- one answered command on the cells: only its own block's may change
pub record CellsStep (cells : Cells) (answered : Answered) (after : Cells) : Type 0 where
  pub own : Step answered.room (cells answered.id) answered.command answered.reply (after answered.id)
  pub others : (id : ℕ) → id ≢ answered.id → after id ≡ cells id

-- answered commands in order
abbrev pub Run : Cells → List Answered → Cells → Type 0
Run cells [] after = (id : ℕ) → after id ≡ cells id
Run cells (answered ∷ rest) after = (between : Cells) × CellsStep cells answered between × Run between rest after

-- a replica or none, as an opening finds it: where there is none, files without a meta may wait
abbrev pub FoundAs : Option Replica → Cell → Type 0
FoundAs (Some replica) after = after ≡ final replica
FoundAs None after = (after ≡ absent) ⊎ (after ≡ waiting)

-- what closing and opening the pool again leaves of a cell
abbrev pub Reopened : Cell → Cell → Type 0
Reopened absent after = after ≡ absent
Reopened (final replica) after = after ≡ final replica
Reopened (growing stamp base bytes left) after = after ≡ given_up base
Reopened waiting after = (after ≡ waiting) ⊎ (after ≡ absent)
Reopened (unsure x y cut) after = FoundAs x after ⊎ (FoundAs y after ⊎ (IsTrue cut × FoundAs None after))
