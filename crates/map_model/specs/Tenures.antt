-- What each tenure may leave of one block, in one state of the disk: its device calls in order, each done, or failed before
-- or after its effect; and what the books and the cell then say.
use Rattle.std.specs.Prelude.{ℕ, ◌≡◌, ◌≢◌, ◌⊎◌, IfSome, Bool, true, false, List, [], ◌∷◌, ◌++◌, length, take, Option, Some, None}
use Rattle.map_model.specs.Cells.{Replica, Cell, absent, final, growing, unsure, waiting}
use Rattle.volume_layout.specs.declared.block_file.BlockFile.{BlockFile}
use Rattle.volume_layout.specs.declared.block_file.BlockFile.TheVariants.{Block, Meta, WritingBlock, WritingMeta, TemporaryBlock, TemporaryMeta}
use Rattle.map_model.specs.Slots.{View, create_in, publish_in, remove_in}
use Rattle.map_model.specs.Stands.{Base, EntryState, is_final, is_written, in_doubt, is_waiting, Entry, Leftover, Ticket, BlockBooks}

-- a call that failed has its effect, or none
abbrev pub Fails : (before done after : View) → Type 0
Fails before done after = (after ≡ before) ⊎ (after ≡ done)

-- the books of one block, field by field
abbrev pub books_of : Option Entry → List Leftover → Option Ticket → BlockBooks
books_of entry leftovers ticket = record { entry = entry; leftovers = leftovers; ticket = ticket }

-- the removal of a leftover, by a cleaning loop or by `sweep`: where it is done, the leftover is no longer listed
pub data Removes (view : View) (front : List Leftover) (leftover : Leftover) (back : List Leftover) : View → List Leftover → Type 0 where
  gone : Removes view front leftover back (remove_in view leftover.vol leftover.file) (front ++ back)
  kept : (after : View) → Fails view (remove_in view leftover.vol leftover.file) after →
      Removes view front leftover back after (front ++ leftover ∷ back)

-- a writer: its volume, stamp, reserved length and revision, and the numbers of its drafts
pub record Writer : Type 0 where
  pub vol : ℕ
  pub stamp : ℕ
  pub len : ℕ
  pub rev : ℕ
  pub block_number : ℕ
  pub meta_number : ℕ

-- the revision is not one that a move wants
abbrev pub IsNew : Option Ticket → ℕ → Type 0
IsNew ticket rev = IfSome ticket (λ t. rev ≢ t.want)

-- its entry, in some state
abbrev pub writer_entry : Writer → EntryState → Entry
writer_entry writer state = record { stamp = writer.stamp; len = writer.len; vol = writer.vol; rev = writer.rev; state = state }

-- the books of a fresh writer, and of an append over its base
abbrev pub written_books : Option Base → List Leftover → Option Ticket → Writer → BlockBooks
written_books base leftovers ticket writer =
    books_of (Some (writer_entry writer (is_written base writer.block_number writer.meta_number))) leftovers ticket

-- the writer's files as leftovers, held or not
abbrev pub block_left : Writer → Bool → Leftover
block_left writer held = record { stamp = writer.stamp; vol = writer.vol; file = WritingBlock; len = writer.len; held = held }

abbrev pub meta_left : Writer → Bool → Leftover
meta_left writer held = record { stamp = writer.stamp; vol = writer.vol; file = WritingMeta writer.stamp; len = 0; held = held }

-- after the creation of the block's draft, and of the meta's
abbrev pub block_created : View → Writer → View
block_created view writer = create_in view writer.vol WritingBlock writer.block_number

abbrev pub both_created : View → Writer → View
both_created view writer = create_in (block_created view writer) writer.vol (WritingMeta writer.stamp) writer.meta_number

-- `start_write`, once no leftover of the block is listed
pub data StartsWrite (view : View) (ticket : Option Ticket) (writer : Writer) : View → BlockBooks → Cell → Type 0 where
  started : StartsWrite view ticket writer (both_created view writer)
      (books_of (Some (writer_entry writer (is_written None writer.block_number writer.meta_number))) [] ticket)
      (growing writer.stamp None [] writer.len)
  block_failed : (after : View) → Fails view (block_created view writer) after →
      StartsWrite view ticket writer after (books_of (Some (writer_entry writer is_waiting)) (block_left writer true ∷ []) ticket) waiting
  block_memory : StartsWrite view ticket writer view (books_of None [] ticket) absent
  meta_failed : (after : View) → Fails (block_created view writer) (both_created view writer) after →
      StartsWrite view ticket writer after
      (books_of (Some (writer_entry writer is_waiting)) (block_left writer true ∷ meta_left writer true ∷ []) ticket) waiting
  meta_memory : StartsWrite view ticket writer (block_created view writer)
      (books_of (Some (writer_entry writer is_waiting)) (block_left writer true ∷ []) ticket) waiting

-- after the publish of the meta, and of the block file, and the removal of the base's meta
abbrev pub meta_published : View → Writer → List ℕ → View
meta_published view writer content = publish_in view writer.vol (WritingMeta writer.stamp) (Meta writer.stamp) content

abbrev pub both_published : View → Writer → List ℕ → List ℕ → View
both_published view writer content bytes = publish_in (meta_published view writer content) writer.vol WritingBlock Block bytes

abbrev pub old_removed : View → Writer → List ℕ → List ℕ → Replica → View
old_removed view writer content bytes base = remove_in (both_published view writer content bytes) writer.vol (Meta base.stamp)

-- the entry of a replica, and of a writer that became final
abbrev pub final_entry : Writer → (len : ℕ) → Entry
final_entry writer len = record { stamp = writer.stamp; len = len; vol = writer.vol; rev = writer.rev; state = is_final }

abbrev pub new_replica : Writer → List ℕ → Replica
new_replica writer bytes = record { stamp = writer.stamp; bytes = bytes }

-- `finish` of a fresh write
pub data FinishesFresh (view : View) (leftovers : List Leftover) (ticket : Option Ticket) (writer : Writer) (content bytes : List ℕ) : View → BlockBooks → Cell → Type 0 where
  finished : FinishesFresh view leftovers ticket writer content bytes (both_published view writer content bytes)
      (books_of (Some (final_entry writer (length bytes))) leftovers ticket) (final (new_replica writer bytes))
  meta_failed : (after : View) → Fails view (meta_published view writer content) after →
      FinishesFresh view leftovers ticket writer content bytes after
      (books_of (Some (writer_entry writer (in_doubt None))) leftovers ticket) (unsure None (Some (new_replica writer bytes)) false)
  block_failed : (after : View) → Fails (meta_published view writer content) (both_published view writer content bytes) after →
      FinishesFresh view leftovers ticket writer content bytes after
      (books_of (Some (writer_entry writer (in_doubt None))) leftovers ticket) (unsure None (Some (new_replica writer bytes)) false)

-- `drop_write` and `fail_write` of a fresh write
abbrev pub block_dropped : View → Writer → View
block_dropped view writer = remove_in view writer.vol WritingBlock

abbrev pub both_dropped : View → Writer → View
both_dropped view writer = remove_in (block_dropped view writer) writer.vol (WritingMeta writer.stamp)

pub data DropsFresh (view : View) (leftovers : List Leftover) (ticket : Option Ticket) (writer : Writer) : View → BlockBooks → Cell → Type 0 where
  dropped : DropsFresh view leftovers ticket writer (both_dropped view writer) (books_of None leftovers ticket) absent
  block_failed : (after : View) → Fails view (block_dropped view writer) after →
      DropsFresh view leftovers ticket writer after
      (books_of (Some (writer_entry writer is_waiting)) (block_left writer true ∷ meta_left writer true ∷ leftovers) ticket) waiting
  meta_failed : (after : View) → Fails (block_dropped view writer) (both_dropped view writer) after →
      DropsFresh view leftovers ticket writer after
      (books_of (Some (writer_entry writer is_waiting)) (meta_left writer true ∷ leftovers) ticket) waiting
  -- `fail_write` makes no call
  given_up_by_caller : DropsFresh view leftovers ticket writer view
      (books_of (Some (writer_entry writer is_waiting)) (block_left writer true ∷ meta_left writer true ∷ leftovers) ticket) waiting

-- the base of an append, final again
abbrev pub base_entry : Writer → Base → Entry
base_entry writer base = record { stamp = base.stamp; len = base.len; vol = writer.vol; rev = writer.rev; state = is_final }

-- `drop_write` and `fail_write` of an append
pub data DropsAppend (view : View) (leftovers : List Leftover) (ticket : Option Ticket) (writer : Writer) (base : Base) (replica : Replica) : View → BlockBooks → Cell → Type 0 where
  dropped : DropsAppend view leftovers ticket writer base replica (both_dropped view writer)
      (books_of (Some (base_entry writer base)) leftovers ticket) (final replica)
  block_failed : (after : View) → Fails view (block_dropped view writer) after →
      DropsAppend view leftovers ticket writer base replica after
      (books_of (Some (base_entry writer base)) (block_left writer false ∷ meta_left writer false ∷ leftovers) ticket) (final replica)
  meta_failed : (after : View) → Fails (block_dropped view writer) (both_dropped view writer) after →
      DropsAppend view leftovers ticket writer base replica after
      (books_of (Some (base_entry writer base)) (meta_left writer false ∷ leftovers) ticket) (final replica)
  -- `fail_write` makes no call
  given_up_by_caller : DropsAppend view leftovers ticket writer base replica view
      (books_of (Some (base_entry writer base)) (block_left writer false ∷ meta_left writer false ∷ leftovers) ticket) (final replica)

-- files are removed from a volume, one after the other
abbrev pub remove_all : View → ℕ → List BlockFile → View
remove_all view vol [] = view
remove_all view vol (file ∷ files) = remove_all (remove_in view vol file) vol files

-- the metas that an unsure entry names
abbrev pub doubt_metas : ℕ → Option Base → List BlockFile
doubt_metas stamp None = Meta stamp ∷ []
doubt_metas stamp (Some base) = Meta stamp ∷ Meta base.stamp ∷ []

-- the entry of a delete that failed
abbrev pub doubtful : Entry → Option Base → Entry
doubtful entry base = record { stamp = entry.stamp; len = entry.len; vol = entry.vol; rev = entry.rev; state = in_doubt base }

-- `delete`, once no leftover of the block is listed: where it fails, some of the removals are done, from the first on
pub data Deletes (view : View) (ticket : Option Ticket) (entry : Entry) (files : List BlockFile) (failed : BlockBooks) (failed_cell : Cell) : View → BlockBooks → Cell → Type 0 where
  deleted : Deletes view ticket entry files failed failed_cell (remove_all view entry.vol files) (books_of None [] ticket) absent
  delete_failed : (count : ℕ) → Deletes view ticket entry files failed failed_cell (remove_all view entry.vol (take count files)) failed failed_cell

-- of a final block, of an unsure one, and of one that waits
abbrev pub DeletesFinal : View → Option Ticket → Entry → Replica → View → BlockBooks → Cell → Type 0
DeletesFinal view ticket entry replica = Deletes view ticket entry (Block ∷ Meta entry.stamp ∷ [])
    (books_of (Some (doubtful entry None)) [] ticket) (unsure (Some replica) None false)

abbrev pub DeletesUnsure : View → Option Ticket → Entry → Option Base → (x y : Option Replica) → View → BlockBooks → Cell → Type 0
DeletesUnsure view ticket entry base x y =
    Deletes view ticket entry (Block ∷ (doubt_metas entry.stamp base ++ (WritingBlock ∷ WritingMeta entry.stamp ∷ [])))
    (books_of (Some (doubtful entry base)) [] ticket) (unsure x y true)

-- the base that an entry becomes
abbrev pub base_of_entry : Entry → Base
base_of_entry entry = record { stamp = entry.stamp; len = entry.len }

-- the files of a refused start count nothing
abbrev pub refused_block : Writer → Leftover
refused_block writer = record { stamp = writer.stamp; vol = writer.vol; file = WritingBlock; len = 0; held = false }

-- `start_append`, once no leftover of the block is listed; a reader that could not be lent changes nothing
pub data StartsAppend (view : View) (ticket : Option Ticket) (entry : Entry) (replica : Replica) (writer : Writer) (more : ℕ) : View → BlockBooks → Cell → Type 0 where
  started : StartsAppend view ticket entry replica writer more (both_created view writer)
      (books_of (Some (writer_entry writer (is_written (Some (base_of_entry entry)) writer.block_number writer.meta_number))) [] ticket)
      (growing writer.stamp (Some replica) replica.bytes more)
  refused : StartsAppend view ticket entry replica writer more view (books_of (Some entry) [] ticket) (final replica)
  block_failed : (after : View) → Fails view (block_created view writer) after →
      StartsAppend view ticket entry replica writer more after (books_of (Some entry) (refused_block writer ∷ []) ticket) (final replica)
  meta_failed : (after : View) → Fails (block_created view writer) (both_created view writer) after →
      StartsAppend view ticket entry replica writer more after (books_of (Some entry) (refused_block writer ∷ meta_left writer false ∷ []) ticket) (final replica)
  meta_memory : StartsAppend view ticket entry replica writer more (block_created view writer) (books_of (Some entry) (refused_block writer ∷ []) ticket) (final replica)

-- `finish` of an append
pub data FinishesAppend (view : View) (leftovers : List Leftover) (ticket : Option Ticket) (writer : Writer) (base : Base) (replica : Replica) (content bytes : List ℕ) :
    View → BlockBooks → Cell → Type 0 where
  finished : FinishesAppend view leftovers ticket writer base replica content bytes (old_removed view writer content bytes replica)
      (books_of (Some (final_entry writer (length bytes))) leftovers ticket) (final (new_replica writer bytes))
  meta_failed : (after : View) → Fails view (meta_published view writer content) after →
      FinishesAppend view leftovers ticket writer base replica content bytes after
      (books_of (Some (writer_entry writer (in_doubt (Some base)))) leftovers ticket) (unsure (Some replica) (Some (new_replica writer bytes)) false)
  block_failed : (after : View) → Fails (meta_published view writer content) (both_published view writer content bytes) after →
      FinishesAppend view leftovers ticket writer base replica content bytes after
      (books_of (Some (writer_entry writer (in_doubt (Some base)))) leftovers ticket) (unsure (Some replica) (Some (new_replica writer bytes)) false)
  removal_failed : (after : View) → Fails (both_published view writer content bytes) (old_removed view writer content bytes replica) after →
      FinishesAppend view leftovers ticket writer base replica content bytes after
      (books_of (Some (writer_entry writer (in_doubt (Some base)))) leftovers ticket) (unsure (Some replica) (Some (new_replica writer bytes)) false)

-- a move's files as leftovers
abbrev pub moved_block : Ticket → ℕ → Leftover
moved_block ticket len = record { stamp = ticket.stamp; vol = ticket.dest; file = TemporaryBlock; len = len; held = false }

abbrev pub moved_meta : Ticket → Leftover
moved_meta ticket = record { stamp = ticket.stamp; vol = ticket.dest; file = TemporaryMeta ticket.stamp; len = 0; held = false }

abbrev pub move_block_created : View → Ticket → View
move_block_created view ticket = create_in view ticket.dest TemporaryBlock ticket.block_number

abbrev pub move_created : View → Ticket → View
move_created view ticket = create_in (move_block_created view ticket) ticket.dest (TemporaryMeta ticket.stamp) ticket.meta_number

-- a move's `begin`; a reader that could not be lent changes nothing
pub data BeginsMove (view : View) (entry : Option Entry) (leftovers : List Leftover) (ticket : Ticket) (cell : Cell) : View → BlockBooks → Cell → Type 0 where
  begun : BeginsMove view entry leftovers ticket cell (move_created view ticket) (books_of entry leftovers (Some ticket)) cell
  refused : BeginsMove view entry leftovers ticket cell view (books_of entry leftovers None) cell
  block_failed : (after : View) → Fails view (move_block_created view ticket) after →
      BeginsMove view entry leftovers ticket cell after (books_of entry (moved_block ticket 0 ∷ leftovers) None) cell
  meta_failed : (after : View) → Fails (move_block_created view ticket) (move_created view ticket) after →
      BeginsMove view entry leftovers ticket cell after (books_of entry (moved_block ticket 0 ∷ moved_meta ticket ∷ leftovers) None) cell
  meta_memory : BeginsMove view entry leftovers ticket cell (move_block_created view ticket) (books_of entry (moved_block ticket 0 ∷ leftovers) None) cell

-- a move's publishes
abbrev pub move_meta_published : View → Ticket → View
move_meta_published view ticket = publish_in view ticket.dest (TemporaryMeta ticket.stamp) (Meta ticket.stamp) ticket.meta_bytes

abbrev pub move_published : View → Ticket → View
move_published view ticket = publish_in (move_meta_published view ticket) ticket.dest TemporaryBlock Block ticket.block_bytes

-- finalised files as leftovers
abbrev pub final_block_left : Ticket → ℕ → Leftover
final_block_left ticket vol = record { stamp = ticket.stamp; vol = vol; file = Block; len = ticket.len; held = false }

abbrev pub final_meta_left : Ticket → ℕ → Leftover
final_meta_left ticket vol = record { stamp = ticket.stamp; vol = vol; file = Meta ticket.stamp; len = 0; held = false }

-- the entry after a move
abbrev pub moved_entry : Entry → Ticket → Entry
moved_entry entry ticket = record { stamp = entry.stamp; len = entry.len; vol = ticket.dest; rev = ticket.rev; state = is_final }

-- a move's publish, where the entry is final and has the wanted revision
pub data PublishesMove (view : View) (entry : Entry) (leftovers : List Leftover) (ticket : Ticket) (replica : Replica) : View → BlockBooks → Cell → Type 0 where
  moved : PublishesMove view entry leftovers ticket replica (move_published view ticket)
      (books_of (Some (moved_entry entry ticket)) (final_block_left ticket entry.vol ∷ final_meta_left ticket entry.vol ∷ leftovers) None) (final replica)
  meta_failed : (after : View) → Fails view (move_meta_published view ticket) after →
      PublishesMove view entry leftovers ticket replica after
      (books_of (Some entry) (final_meta_left ticket ticket.dest ∷ moved_block ticket ticket.len ∷ moved_meta ticket ∷ leftovers) None) (final replica)
  block_failed : (after : View) → Fails (move_meta_published view ticket) (move_published view ticket) after →
      PublishesMove view entry leftovers ticket replica after
      (books_of (Some entry) (final_block_left ticket ticket.dest ∷ final_meta_left ticket ticket.dest ∷ moved_block ticket ticket.len ∷ leftovers) None) (final replica)
