-- What a command does to what the books of a pool say of its block.
use Rattle.std.specs.Prelude.{ℕ, ◌≡◌, ◌≢◌, ◌⊎◌, [], ◌∷◌, length, None, Some, IfSome, IsSomeAnd, ⊤}
use Rattle.map_model.specs.Cells.{Cell, absent, final, unsure, waiting}
use Rattle.pool_state.specs.Rooms.{Choosing, drawn}
use Rattle.pool_state.specs.Uses.{IsRoomOf, IsChosen}
use Rattle.pool_state.specs.Volumes.{IsVolume}
use Rattle.map_model.specs.Steps.{Command, Room, start_write, push, finish, drop_write, write, delete, Reply, done, failed, memory}
use Rattle.map_model.specs.Stands.{is_final, in_doubt, is_waiting, BlockBooks}
use Rattle.map_model.specs.Tenures.{books_of}
use Rattle.pool_state.specs.Books.{meta_held}
use Rattle.pool_state.specs.BookSteps.{no_books, in_state, with_replica, given_up, given_up_meta, started_entry, being_written, half_started, left_started, BooksHalfDeleted}

-- the block waits with the meta file that a write may have left whose block file is gone
abbrev pub meta_left : (vol rev stamp need : ℕ) → BlockBooks
meta_left vol rev stamp need =
    books_of (Some (started_entry vol rev stamp need is_waiting)) (meta_held (started_entry vol rev stamp need is_waiting) ∷ []) None

-- a write of so many bytes is finished, and one is in doubt
abbrev pub written : (vol rev stamp len : ℕ) → BlockBooks
written vol rev stamp len = books_of (Some (started_entry vol rev stamp len is_final)) [] None

abbrev pub doubted : (vol rev stamp len : ℕ) → BlockBooks
doubted vol rev stamp len = books_of (Some (started_entry vol rev stamp len (in_doubt None))) [] None

-- what a start leaves that found no memory, by the block's cell
abbrev pub StartLacked : (vol rev stamp need : ℕ) → Cell → (old new : BlockBooks) → Type 0
StartLacked vol rev stamp need absent old new = new ≡ old
StartLacked vol rev stamp need waiting old new = new ≡ half_started vol rev stamp need
StartLacked vol rev stamp need cell old new = ⊥

-- what a whole write leaves that found no memory
abbrev pub WriteLacked : (vol rev stamp len : ℕ) → Cell → (old new : BlockBooks) → Type 0
WriteLacked vol rev stamp len absent old new = new ≡ no_books
WriteLacked vol rev stamp len waiting old new =
    (new ≡ half_started vol rev stamp len) ⊎ ((new ≡ left_started vol rev stamp len) ⊎ (new ≡ meta_left vol rev stamp len))
WriteLacked vol rev stamp len cell old new = ⊥

-- what a whole write leaves that failed
abbrev pub WriteFailed : (vol rev stamp len : ℕ) → Cell → (new : BlockBooks) → Type 0
WriteFailed vol rev stamp len waiting new = (new ≡ half_started vol rev stamp len) ⊎ (new ≡ left_started vol rev stamp len)
WriteFailed vol rev stamp len (unsure x y cut) new = new ≡ doubted vol rev stamp len
WriteFailed vol rev stamp len cell new = ⊥

-- what the end of a write leaves, and one that failed
abbrev pub FinishDone : Cell → (old new : BlockBooks) → Type 0
FinishDone (final replica) old new = new ≡ with_replica (length replica.bytes) old
FinishDone cell old new = ⊥

abbrev pub FinishFailed : Cell → (old new : BlockBooks) → Type 0
FinishFailed (unsure x y cut) old new = new ≡ in_state (in_doubt None) old
FinishFailed waiting old new = new ≡ given_up old
FinishFailed cell old new = ⊥

-- What a command that is answered so and leaves this cell does to the books of its block: a start makes an entry on the
-- volume that is chosen, of the next revision. (Later commands: a line each.)
abbrev pub BookStep : Command → Reply → Cell → (vol rev : ℕ) → (old new : BlockBooks) → Type 0
BookStep (start_write stamp need) done cell vol rev old new = (block : ℕ) × (meta : ℕ) × (new ≡ being_written vol rev stamp need block meta)
BookStep (start_write stamp need) failed cell vol rev old new = (new ≡ half_started vol rev stamp need) ⊎ (new ≡ left_started vol rev stamp need)
BookStep (start_write stamp need) memory cell vol rev old new = StartLacked vol rev stamp need cell old new
BookStep (push piece) failed cell vol rev old new = new ≡ given_up old
BookStep finish done cell vol rev old new = FinishDone cell old new
BookStep finish failed cell vol rev old new = FinishFailed cell old new
BookStep drop_write done cell vol rev old new = new ≡ no_books
BookStep drop_write failed cell vol rev old new = (new ≡ given_up old) ⊎ (new ≡ given_up_meta old)
BookStep (write stamp bytes) done cell vol rev old new = new ≡ written vol rev stamp (length bytes)
BookStep (write stamp bytes) failed cell vol rev old new = WriteFailed vol rev stamp (length bytes) cell new
BookStep (write stamp bytes) memory cell vol rev old new = WriteLacked vol rev stamp (length bytes) cell old new
BookStep delete done cell vol rev old new = new ≡ no_books
BookStep delete failed cell vol rev old new = IfSome old.entry (λ entry. BooksHalfDeleted entry.state old new)
BookStep command answer cell vol rev old new = new ≡ old

-- What a pool chooses by after such a command: a start draws a revision just where it makes an entry, and the choice goes
-- on behind its volume. A whole write that found no memory and left nothing may have drawn one.
abbrev pub StartDraws : Cell → (vol : ℕ) → (was now : Choosing) → Type 0
StartDraws absent vol was now = now ≡ was
StartDraws cell vol was now = now ≡ drawn vol was

abbrev pub WriteDraws : Cell → (vol : ℕ) → (was now : Choosing) → Type 0
WriteDraws absent vol was now = (now ≡ was) ⊎ (now ≡ drawn vol was)
WriteDraws cell vol was now = now ≡ drawn vol was

abbrev pub Draws : Command → Reply → Cell → (vol : ℕ) → (was now : Choosing) → Type 0
Draws (start_write stamp need) done cell vol was now = now ≡ drawn vol was
Draws (start_write stamp need) failed cell vol was now = now ≡ drawn vol was
Draws (start_write stamp need) memory cell vol was now = StartDraws cell vol was now
Draws (write stamp bytes) done cell vol was now = now ≡ drawn vol was
Draws (write stamp bytes) failed cell vol was now = now ≡ drawn vol was
Draws (write stamp bytes) memory cell vol was now = WriteDraws cell vol was now
Draws command answer cell vol was now = now ≡ was

-- What a command asks of the books: a start of a fresh write that the room is what they leave, and the volume the one that
-- is chosen by them.
abbrev pub RoomAsked : Command → Choosing → (ℕ → BlockBooks) → Room → (vol : ℕ) → Type 0
RoomAsked (start_write stamp need) choosing books room vol = IsRoomOf choosing books room × IsChosen choosing books need vol
RoomAsked (write stamp bytes) choosing books room vol = IsRoomOf choosing books room × IsChosen choosing books (length bytes) vol
RoomAsked command choosing books room vol = ⊤

-- The books of one block change so, those of all others stay.
pub record BooksChange (id : ℕ) (Becomes : (old new : BlockBooks) → Type 0) (old new : ℕ → BlockBooks) : Type 0 where
  pub own : Becomes (old id) (new id)
  pub others : (other : ℕ) → other ≢ id → new other ≡ old other

-- what an opening's books say of a block, by its cell
abbrev pub BooksOpened : (volumes : ℕ) → Cell → BlockBooks → Type 0
BooksOpened volumes absent books = books ≡ no_books
BooksOpened volumes (final replica) books = (vol : ℕ) × (rev : ℕ) × IsVolume volumes vol
    × (books ≡ books_of (Some (record { stamp = replica.stamp; len = length replica.bytes; vol = vol; rev = rev; state = is_final })) [] None)
BooksOpened volumes waiting books = IsSomeAnd books.entry (λ entry. IsVolume volumes entry.vol × (entry.state ≡ is_waiting))
BooksOpened volumes cell books = ⊥
