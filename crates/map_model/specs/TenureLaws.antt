-- Each tenure keeps what stands of its block, at every exit: whichever of its device calls is done, or fails before or after its effect.
use Rattle.std.specs.Prelude.{ℕ, ◌+◌, ◌<◌, ◌≡◌, ◌≢◌, Bool, List, [], ◌∷◌, ◌++◌, length, Option, Some, None}
use Rattle.volume_layout.specs.Paths.{IsStamp}
use Rattle.map_model.specs.Cells.{Replica, Cell, absent, final, growing, unsure, waiting}
use Rattle.map_model.specs.Steps.{finish}
use Rattle.map_model.specs.Allows.{AllowsFiles, Between}
use Rattle.volume_layout.specs.declared.block_file.BlockFile.{BlockFile}
use Rattle.map_model.specs.Slots.{empty, View, files_in}
use Rattle.map_model.specs.Stands.{Base, in_doubt, Entry, Leftover, Ticket, BlockBooks, IsListed, WantedStands, BlockStands}
use Rattle.map_model.specs.Tenures.{books_of, Removes, Writer, IsNew, written_books, new_replica, StartsWrite, FinishesFresh, DropsFresh, DropsAppend, DeletesFinal, DeletesUnsure, StartsAppend, FinishesAppend, moved_block, moved_meta, BeginsMove, PublishesMove}

-- of a block of which no file stands, the books know nothing, and it is absent
abbrev pub NothingStands : (List ℕ → Replica → Type 0) → Type 0
NothingStands IsMatch = BlockStands IsMatch (λ vol file. empty) (books_of None [] None) absent

-- the removal of one leftover, by a cleaning loop or by `sweep`
abbrev pub RemovalStands : (List ℕ → Replica → Type 0) → Type 0
RemovalStands IsMatch = (view : View) (entry : Option Entry) (front : List Leftover) (leftover : Leftover) (back : List Leftover)
    (ticket : Option Ticket) (cell : Cell) (after : View) (leftovers : List Leftover) →
    BlockStands IsMatch view (books_of entry (front ++ leftover ∷ back) ticket) cell → Removes view front leftover back after leftovers →
    BlockStands IsMatch after (books_of entry leftovers ticket) cell

abbrev pub StartWriteStands : (List ℕ → Replica → Type 0) → Type 0
StartWriteStands IsMatch = (view : View) (ticket : Option Ticket) (writer : Writer) (after : View) (books : BlockBooks) (cell : Cell) →
    BlockStands IsMatch view (books_of None [] ticket) absent → IsStamp writer.stamp → IsNew ticket writer.rev →
    StartsWrite view ticket writer after books cell → BlockStands IsMatch after books cell

-- and what it leaves is read as absent
abbrev pub StartWriteIsQuiet : (List ℕ → Replica → Type 0) → Type 0
StartWriteIsQuiet IsMatch = (view : View) (ticket : Option Ticket) (writer : Writer) (after : View) (books : BlockBooks) (cell : Cell) →
    BlockStands IsMatch view (books_of None [] ticket) absent → IsStamp writer.stamp → IsNew ticket writer.rev →
    StartsWrite view ticket writer after books cell → AllowsFiles absent (files_in after)

-- `finish` of a fresh write, with a meta that matches the bytes
abbrev pub FinishWriteStands : (List ℕ → Replica → Type 0) → Type 0
FinishWriteStands IsMatch = (view : View) (leftovers : List Leftover) (ticket : Option Ticket) (writer : Writer)
    (content bytes : List ℕ) (left : ℕ) (after : View) (books : BlockBooks) (cell : Cell) →
    BlockStands IsMatch view (written_books None leftovers ticket writer) (growing writer.stamp None bytes left) → IsMatch content (new_replica writer bytes) →
    FinishesFresh view leftovers ticket writer content bytes after books cell → BlockStands IsMatch after books cell

-- and what it leaves is between the cell before it and the cell after it
abbrev pub FinishWriteIsBetween : (List ℕ → Replica → Type 0) → Type 0
FinishWriteIsBetween IsMatch = (view : View) (leftovers : List Leftover) (ticket : Option Ticket) (writer : Writer)
    (content bytes : List ℕ) (left : ℕ) (after : View) (books : BlockBooks) (cell : Cell) →
    BlockStands IsMatch view (written_books None leftovers ticket writer) (growing writer.stamp None bytes left) → IsMatch content (new_replica writer bytes) →
    FinishesFresh view leftovers ticket writer content bytes after books cell →
    Between (growing writer.stamp None bytes left) finish (files_in after)

-- `drop_write` of a fresh write, and a writer that is given up
abbrev pub DropWriteStands : (List ℕ → Replica → Type 0) → Type 0
DropWriteStands IsMatch = (view : View) (leftovers : List Leftover) (ticket : Option Ticket) (writer : Writer)
    (bytes : List ℕ) (left : ℕ) (after : View) (books : BlockBooks) (cell : Cell) →
    BlockStands IsMatch view (written_books None leftovers ticket writer) (growing writer.stamp None bytes left) →
    DropsFresh view leftovers ticket writer after books cell → BlockStands IsMatch after books cell

abbrev pub DropAppendStands : (List ℕ → Replica → Type 0) → Type 0
DropAppendStands IsMatch = (view : View) (leftovers : List Leftover) (ticket : Option Ticket) (writer : Writer) (base : Base) (replica : Replica)
    (bytes : List ℕ) (left : ℕ) (after : View) (books : BlockBooks) (cell : Cell) →
    BlockStands IsMatch view (written_books (Some base) leftovers ticket writer) (growing writer.stamp (Some replica) bytes left) →
    DropsAppend view leftovers ticket writer base replica after books cell → BlockStands IsMatch after books cell

abbrev pub DeleteFinalStands : (List ℕ → Replica → Type 0) → Type 0
DeleteFinalStands IsMatch = (view : View) (ticket : Option Ticket) (entry : Entry) (replica : Replica) (after : View) (books : BlockBooks) (cell : Cell) →
    BlockStands IsMatch view (books_of (Some entry) [] ticket) (final replica) →
    DeletesFinal view ticket entry replica after books cell → BlockStands IsMatch after books cell

abbrev pub DeleteUnsureStands : (List ℕ → Replica → Type 0) → Type 0
DeleteUnsureStands IsMatch = (view : View) (ticket : Option Ticket) (entry : Entry) (base : Option Base) (x y : Option Replica) (cut : Bool)
    (after : View) (books : BlockBooks) (cell : Cell) →
    entry.state ≡ in_doubt base → BlockStands IsMatch view (books_of (Some entry) [] ticket) (unsure x y cut) →
    DeletesUnsure view ticket entry base x y after books cell → BlockStands IsMatch after books cell

-- of a block that waits: once its leftovers are gone, its entry goes
abbrev pub DeleteWaitingStands : (List ℕ → Replica → Type 0) → Type 0
DeleteWaitingStands IsMatch = (view : View) (ticket : Option Ticket) (entry : Entry) →
    BlockStands IsMatch view (books_of (Some entry) [] ticket) waiting → BlockStands IsMatch view (books_of None [] ticket) absent

-- a writer over a final replica
pub record OpensOver (ticket : Option Ticket) (entry : Entry) (replica : Replica) (writer : Writer) (more : ℕ) : Type 0 where
  pub same_vol : writer.vol ≡ entry.vol
  pub stamped : IsStamp writer.stamp
  pub newer : entry.stamp < writer.stamp
  pub len : writer.len ≡ length replica.bytes + more
  pub new : IsNew ticket writer.rev

abbrev pub StartAppendStands : (List ℕ → Replica → Type 0) → Type 0
StartAppendStands IsMatch = (view : View) (ticket : Option Ticket) (entry : Entry) (replica : Replica) (writer : Writer) (more : ℕ)
    (after : View) (books : BlockBooks) (cell : Cell) →
    BlockStands IsMatch view (books_of (Some entry) [] ticket) (final replica) → OpensOver ticket entry replica writer more →
    StartsAppend view ticket entry replica writer more after books cell → BlockStands IsMatch after books cell

-- `finish` of an append, with a meta that matches the bytes
abbrev pub FinishAppendStands : (List ℕ → Replica → Type 0) → Type 0
FinishAppendStands IsMatch = (view : View) (leftovers : List Leftover) (ticket : Option Ticket) (writer : Writer) (base : Base) (replica : Replica)
    (content bytes grown : List ℕ) (left : ℕ) (after : View) (books : BlockBooks) (cell : Cell) →
    BlockStands IsMatch view (written_books (Some base) leftovers ticket writer) (growing writer.stamp (Some replica) grown left) → IsMatch content (new_replica writer bytes) →
    FinishesAppend view leftovers ticket writer base replica content bytes after books cell → BlockStands IsMatch after books cell

-- where a move may begin
pub record MayMove (view : View) (entry : Entry) (leftovers : List Leftover) (ticket : Ticket) : Type 0 where
  pub stamped : IsStamp ticket.stamp
  pub elsewhere : entry.vol ≢ ticket.dest
  pub clear : (file : BlockFile) → IsListed leftovers ticket.dest file → ⊥
  pub told : WantedStands view ticket entry entry.state

abbrev pub BeginMoveStands : (List ℕ → Replica → Type 0) → Type 0
BeginMoveStands IsMatch = (view : View) (entry : Entry) (leftovers : List Leftover) (ticket : Ticket) (cell : Cell)
    (after : View) (books : BlockBooks) (next_cell : Cell) →
    BlockStands IsMatch view (books_of (Some entry) leftovers None) cell → MayMove view entry leftovers ticket →
    BeginsMove view (Some entry) leftovers ticket cell after books next_cell → BlockStands IsMatch after books next_cell

-- a move's publish, where the entry has the wanted revision
abbrev pub PublishMoveStands : (List ℕ → Replica → Type 0) → Type 0
PublishMoveStands IsMatch = (view : View) (entry : Entry) (leftovers : List Leftover) (ticket : Ticket) (replica : Replica)
    (after : View) (books : BlockBooks) (cell : Cell) →
    BlockStands IsMatch view (books_of (Some entry) leftovers (Some ticket)) (final replica) → entry.rev ≡ ticket.want →
    PublishesMove view entry leftovers ticket replica after books cell → BlockStands IsMatch after books cell

-- a move that is dropped: its files are leftovers
abbrev pub DropMoveStands : (List ℕ → Replica → Type 0) → Type 0
DropMoveStands IsMatch = (view : View) (entry : Option Entry) (leftovers : List Leftover) (ticket : Ticket) (cell : Cell) →
    IsStamp ticket.stamp → BlockStands IsMatch view (books_of entry leftovers (Some ticket)) cell →
    BlockStands IsMatch view (books_of entry (moved_block ticket ticket.len ∷ moved_meta ticket ∷ leftovers) None) cell
