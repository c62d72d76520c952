-- What the calls of a pool do to what its books say of one block.
use Rattle.std.specs.Prelude.{ℕ, ◌≡◌, ◌⊎◌, [], ◌∷◌, drop, Option, Some, None, option_map, IfSome, Result, Ok, Err}
use Rattle.map_model.specs.Stands.{EntryState, is_final, is_written, in_doubt, is_waiting, Entry, BlockBooks}
use Rattle.map_model.specs.Tenures.{books_of}
use Rattle.pool_state.specs.Rooms.{Choosing, drawn}
use Rattle.pool_state.specs.Books.{with_leftover, block_held, meta_held}
use Rattle.pool_state.specs.declared.start_fault.StartFault.{StartFault}
use Rattle.pool_state.specs.declared.start_fault.StartFault.TheVariants.{Failed as StartFailed, Memory as StartMemory}
use Rattle.pool_state.specs.declared.deleting.DeleteFault.{DeleteFault}
use Rattle.pool_state.specs.declared.deleting.DeleteFault.TheVariants.{Failed as RemovalFailed}

-- the books say nothing of the block
abbrev pub no_books : BlockBooks
no_books = books_of None [] None

-- an entry in another state, and as that of a replica of so many bytes
abbrev pub entry_in : EntryState → Entry → Entry
entry_in state entry = record entry { state = state }

abbrev pub replica_entry : ℕ → Entry → Entry
replica_entry len entry = record entry { len = len; state = is_final }

-- the block's entry becomes such a one
abbrev pub in_state : EntryState → BlockBooks → BlockBooks
in_state state books = record books { entry = option_map (entry_in state) books.entry }

abbrev pub with_replica : ℕ → BlockBooks → BlockBooks
with_replica len books = record books { entry = option_map (replica_entry len) books.entry }

-- the files of an entry's writer are listed, held: its meta file, or its block file before it
abbrev pub holding_meta : Option Entry → BlockBooks → BlockBooks
holding_meta None books = books
holding_meta (Some entry) books = with_leftover (meta_held entry) books

abbrev pub holding_both : Option Entry → BlockBooks → BlockBooks
holding_both None books = books
holding_both (Some entry) books = with_leftover (meta_held entry) (with_leftover (block_held entry) books)

-- a writer is given up: the block waits, with both its files, or with the meta file where the block file is gone
abbrev pub given_up : BlockBooks → BlockBooks
given_up books = holding_both books.entry (in_state is_waiting books)

abbrev pub given_up_meta : BlockBooks → BlockBooks
given_up_meta books = holding_meta books.entry (in_state is_waiting books)

-- the entry of a write that was started on this volume, of this revision, with this stamp, and reserves so many bytes
abbrev pub started_entry : (vol rev stamp need : ℕ) → EntryState → Entry
started_entry vol rev stamp need state = record { stamp = stamp; len = need; vol = vol; rev = rev; state = state }

-- the block is being written, with drafts of these numbers
abbrev pub being_written : (vol rev stamp need block meta : ℕ) → BlockBooks
being_written vol rev stamp need block meta = books_of (Some (started_entry vol rev stamp need (is_written None block meta))) [] None

-- the block waits with the block file that a start may have left, and with the meta file that it may have left too
abbrev pub half_started : (vol rev stamp need : ℕ) → BlockBooks
half_started vol rev stamp need =
    books_of (Some (started_entry vol rev stamp need is_waiting)) (block_held (started_entry vol rev stamp need is_waiting) ∷ []) None

abbrev pub left_started : (vol rev stamp need : ℕ) → BlockBooks
left_started vol rev stamp need = with_leftover (meta_held (started_entry vol rev stamp need is_waiting)) (half_started vol rev stamp need)

-- What a start on this volume does, by what its pool chooses by before and after it: a revision is drawn just where an entry
-- is made. So one that isn't done, and one that is answered so.
abbrev pub BooksNotStarted : StartFault → (vol stamp need : ℕ) → (was now : Choosing) → (old new : BlockBooks) → Type 0
BooksNotStarted StartFailed vol stamp need was now old new =
    ((new ≡ half_started vol was.next_rev stamp need) ⊎ (new ≡ left_started vol was.next_rev stamp need)) × (now ≡ drawn vol was)
BooksNotStarted StartMemory vol stamp need was now old new =
    ((new ≡ old) × (now ≡ was)) ⊎ ((new ≡ half_started vol was.next_rev stamp need) × (now ≡ drawn vol was))
BooksNotStarted fault vol stamp need was now old new = (new ≡ old) × (now ≡ was)

abbrev pub BooksStarted : {W : Type 0} → Result W StartFault → (vol stamp need : ℕ) → (was now : Choosing) → (old new : BlockBooks) → Type 0
BooksStarted (Ok writer) vol stamp need was now old new =
    (block : ℕ) × (meta : ℕ) × (new ≡ being_written vol was.next_rev stamp need block meta) × (now ≡ drawn vol was)
BooksStarted (Err fault) vol stamp need was now old new = BooksNotStarted fault vol stamp need was now old new

-- the finish of a write of so many bytes
abbrev pub BooksFinished : {U E : Type 0} → Result U E → ℕ → (old new : BlockBooks) → Type 0
BooksFinished (Ok nothing) len old new = new ≡ with_replica len old
BooksFinished (Err failure) len old new = new ≡ in_state (in_doubt None) old

-- the drop of a writer
abbrev pub BooksDropped : {U E : Type 0} → Result U E → (old new : BlockBooks) → Type 0
BooksDropped (Ok nothing) old new = new ≡ no_books
BooksDropped (Err failure) old new = (new ≡ given_up old) ⊎ (new ≡ given_up_meta old)

-- the first few of a block's leftovers are gone
abbrev pub FirstGone : (old new : BlockBooks) → Type 0
FirstGone old new = (count : ℕ) × (new ≡ record old { leftovers = drop count old.leftovers })

-- a deletion that failed, by the state of the block's entry: a replica is in doubt, a block in doubt stays so, and of one
-- that waits the first few leftovers are gone
abbrev pub BooksHalfDeleted : EntryState → (old new : BlockBooks) → Type 0
BooksHalfDeleted is_final old new = new ≡ in_state (in_doubt None) old
BooksHalfDeleted is_waiting old new = FirstGone old new
BooksHalfDeleted state old new = new ≡ old

-- a deletion, answered so
abbrev pub BooksDeleted : {U : Type 0} → Result U DeleteFault → (old new : BlockBooks) → Type 0
BooksDeleted (Ok nothing) old new = new ≡ no_books
BooksDeleted (Err RemovalFailed) old new = IfSome old.entry (λ entry. BooksHalfDeleted entry.state old new)
BooksDeleted (Err fault) old new = new ≡ old
