-- One command on a block: its reply, the cell after it, and the cause of a failure.
use Rattle.std.specs.Prelude.{ℕ, ◌≡◌, ◌<◌, ◌⊎◌, ◌==◌, ◌&&◌, Bool, true, false, if◌then◌else◌, List, length, Some, ⊤}
use Rattle.disk_model.specs.Causes.{Rose}
use Rattle.disk_model.specs.Marks.{Mark}
use Rattle.script_lang.specs.declared.reply.Reply.{Reply}
use Rattle.script_lang.specs.declared.reply.Reply.TheVariants.{Done, Data, Exists, NoBlock, Writing, Waiting, Unsure, OldStamp, Full, TooLong, Failed, Memory, Over, NoWriter, Worn}
use Rattle.map_model.specs.Cells.{Replica, Cell, waiting, final, unsure}
use Rattle.map_model.specs.Sound.{Metas, Verifies, with_meta}
use Rattle.map_model.specs.Steps.{Command, Room, start_write, push, finish, drop_write, write, read, delete, half_deleted, CellsStep}
use Rattle.map_model.specs.Steps.{Reply as Answer, done, content, exists, no_block, is_writing, is_waiting, is_unsure, old_stamp, full, too_long, failed, memory, over, no_writer, worn}
use Rattle.meta_file.specs.declared.verdict.Verdict.{Verdict}
use Rattle.meta_file.specs.Verdicts.{verdict_of}
use Rattle.pair_draft.specs.Checking.{IsOnLength}
use Rattle.pool_state.specs.Readers.{LooksForTwo}
use Rattle.run_model.specs.Replies.{read_reply}
use Rattle.run_model.specs.State.{Numbers, RunState}
use Rattle.run_model.specs.Books.{RoomAsked, BookStep, Draws, BooksChange}

-- what is known of the disks: nothing, or that they tell their content, or also that each replica's meta file matched
-- its bytes when they were opened first
pub data Trust : Type 0 where
  any_disks : Trust
  telling_disks : Trust
  sound_disks : Trust

-- A read of any disks replies the stamp and as many bytes as the replica has, or some verdict on that length.
pub record GivesOfLength (replica : Replica) (reply : Reply) : Type 0 where
  pub bytes : List ℕ
  pub len : length bytes ≡ length replica.bytes
  pub verdict : Verdict
  pub on_length : IsOnLength (length replica.bytes) verdict
  pub reply_is : reply ≡ read_reply replica.stamp bytes verdict

-- What a read of a replica replies, with the meta file of its stamp: of disks that tell their content, its stamp and
-- bytes where they match, and else the verdict of just this meta file on them. Where each meta file matched at the
-- beginning, they match.
abbrev pub Gives : Trust → (meta : List ℕ) → Replica → Reply → Type 0
Gives sound_disks meta replica reply = reply ≡ Data replica.stamp replica.bytes
Gives telling_disks meta replica reply = reply ≡ read_reply replica.stamp replica.bytes (verdict_of meta replica.bytes (length replica.bytes))
Gives any_disks meta replica reply = GivesOfLength replica reply

-- the reply that says an answer, where these are the meta files of the block's stamps
abbrev pub Says : Trust → (ℕ → List ℕ) → Answer → Reply → Type 0
Says trust metas (content replica) reply = Gives trust (metas replica.stamp) replica reply
Says trust metas done reply = reply ≡ Done
Says trust metas exists reply = reply ≡ Exists
Says trust metas no_block reply = reply ≡ NoBlock
Says trust metas is_writing reply = reply ≡ Writing
Says trust metas is_waiting reply = reply ≡ Waiting
Says trust metas is_unsure reply = reply ≡ Unsure
Says trust metas (old_stamp have) reply = reply ≡ OldStamp have
Says trust metas (full need free) reply = reply ≡ Full need free
Says trust metas (too_long limit) reply = reply ≡ TooLong limit
Says trust metas failed reply = reply ≡ Failed
Says trust metas memory reply = reply ≡ Memory
Says trust metas (over left) reply = reply ≡ Over left
Says trust metas no_writer reply = reply ≡ NoWriter
Says trust metas worn reply = reply ≡ Worn

-- the disks' own count rose
abbrev pub DisksFailed : Mark → Mark → Type 0
DisksFailed before after = Rose before.faults after.faults

-- What failed where a command answers `failed`, by the cell that it found and the one that it leaves. `Faulty first
-- last` says that some draft or reader failed whose number is one of these; the writer's numbers are those that the
-- command gave which began it. (Later commands: one more case each.)
abbrev pub FailsBy : (Faulty : ℕ → ℕ → Type 0) (before after : Mark) (writer : Numbers) → Cell → Command → Cell → Type 0
FailsBy Faulty before after writer old (start_write stamp need) new = DisksFailed before after × (new ≡ waiting)
FailsBy Faulty before after writer old (push piece) new = Faulty writer.first writer.last
FailsBy Faulty before after writer old finish (unsure x y cut) = DisksFailed before after
FailsBy Faulty before after writer old finish new = Faulty writer.first writer.last
FailsBy Faulty before after writer old drop_write new = DisksFailed before after
FailsBy Faulty before after writer old (write stamp bytes) (unsure x y cut) = DisksFailed before after
FailsBy Faulty before after writer old (write stamp bytes) new = (DisksFailed before after ⊎ Faulty before.next_number after.next_number) × (new ≡ waiting)
FailsBy Faulty before after writer old read new = DisksFailed before after ⊎ Faulty before.next_number after.next_number
FailsBy Faulty before after writer old delete new = DisksFailed before after × (new ≡ half_deleted old)
FailsBy Faulty before after writer old command new = ⊥

-- whether a command that is answered so begins a writer that stays open
abbrev pub begins_writer : Command → Answer → Bool
begins_writer (start_write stamp need) done = true
begins_writer command answer = false

-- the answer gives a replica, or the verdict on it
abbrev pub IsContent : Answer → Type 0
IsContent (content replica) = ⊤
IsContent answer = ⊥

-- the meta file of this replica becomes one that matches it, and those of other replicas stay
pub record LearnsOf (old : Metas) (id : ℕ) (replica : Replica) (new : Metas) : Type 0 where
  pub meta : List ℕ
  pub verifies : Verifies meta replica
  pub is : new ≡ with_meta old id replica.stamp meta

-- the meta files where an end of a write left this cell: that of the replica which was published, or may have been, is
-- known
abbrev pub LearnsBy : Metas → ℕ → Cell → Metas → Type 0
LearnsBy old id (final replica) new = LearnsOf old id replica new
LearnsBy old id (unsure x (Some replica) cut) new = LearnsOf old id replica new
LearnsBy old id cell new = new ≡ old

-- the meta files after a command that is answered so and leaves this cell: only the end of a write publishes one
abbrev pub MetasAfter : Command → Answer → Metas → ℕ → Cell → Metas → Type 0
MetasAfter finish done old id cell new = LearnsBy old id cell new
MetasAfter finish failed old id cell new = LearnsBy old id cell new
MetasAfter (write stamp bytes) done old id cell new = LearnsBy old id cell new
MetasAfter (write stamp bytes) failed old id cell new = LearnsBy old id cell new
MetasAfter command answer old id cell new = new ≡ old

-- the numbers that a command gave
abbrev pub given : Mark → Mark → Numbers
given before after = record { first = before.next_number; last = after.next_number }

-- One command on a block: the reply says the answer of a step of the cells, with the room that the books leave, a failure has its cause, want of memory
-- leaves files only where a draft's number was given, what is given of a replica was looked for in this command, only
-- the end of a write changes a meta file, only a command that begins a writer changes what is known of the writers, and
-- the books of the block and what is chosen by change as its answer and its cell say.
pub record CommandStep (trust : Trust) (Faulty : ℕ → ℕ → Type 0) (old : RunState) (before : Mark) (id : ℕ) (command : Command) (reply : Reply) (new : RunState) (after : Mark) : Type 0 where
  pub answer : Answer
  pub says : Says trust (old.metas id) answer reply
  pub room : Room
  pub vol : ℕ
  pub asked : RoomAsked command old.choosing old.books room vol
  pub cells : CellsStep old.cells (record { id = id; room = room; command = command; reply = answer }) new.cells
  pub fault : answer ≡ failed → FailsBy Faulty before after (old.writers id) (old.cells id) command (new.cells id)
  pub lack : answer ≡ memory → new.cells id ≡ waiting → before.next_number < after.next_number
  pub looked : IsContent answer → LooksForTwo before after
  pub metas : MetasAfter command answer old.metas id (new.cells id) new.metas
  pub writers : (other : ℕ) → new.writers other ≡ (if begins_writer command answer && other == id then given before after else old.writers other)
  pub choosing : Draws command answer (new.cells id) vol old.choosing new.choosing
  pub books : BooksChange id (BookStep command answer (new.cells id) vol old.choosing.next_rev) old.books new.books
