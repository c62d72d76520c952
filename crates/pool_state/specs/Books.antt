-- The books of a pool, and what they are to the definition of when a block's files stand.
use Rattle.std.specs.Prelude.{ℕ, ◌≡◌, ◌+◌, ◌*◌, ◌≤◌, true, ◌==◌, if◌then◌else◌, List, [], ◌∷◌, ◌++◌, map, Option, Some, None, option_map}
use Rattle.replica_map.specs.declared.entry.Entry.{Entry}
use Rattle.replica_map.specs.declared.entry.Base.{Base}
use Rattle.replica_map.specs.declared.entry.Grown.{Grown}
use Rattle.replica_map.specs.declared.entry.State.{State}
use Rattle.replica_map.specs.declared.entry.State.TheVariants.{Finalised, Writing, Unsure, Waiting}
use Rattle.replica_map.specs.declared.leftover.Leftover.{Leftover}
use Rattle.replica_map.specs.Books.{Books, entry_at, grown_at, leftovers_of, writers}
use Rattle.volume_layout.specs.declared.block_file.BlockFile.TheVariants.{WritingBlock, WritingMeta}
use Rattle.map_model.specs.Stands.{EntryState, is_final, is_written, in_doubt, is_waiting, Base as BookBase, Entry as BookEntry, Leftover as BookLeftover, BlockBooks}
use Rattle.map_model.specs.Tenures.{books_of}

-- the replica under an append, to the definition of when a block's files stand
abbrev pub book_base : Base → BookBase
book_base base = record { stamp = base.stamp; len = base.len }

abbrev pub kept_base : Option Grown → Option BookBase
kept_base None = None
kept_base (Some grown) = option_map book_base grown.base

-- the numbers of a writer's two drafts
abbrev pub block_number : Option Grown → ℕ
block_number None = 0
block_number (Some grown) = grown.block_no

abbrev pub meta_number : Option Grown → ℕ
meta_number None = 0
meta_number (Some grown) = grown.meta_no

-- an entry's state, by what is kept beside it
abbrev pub entry_state : Option Grown → State → EntryState
entry_state grown Finalised = is_final
entry_state grown Writing = is_written (kept_base grown) (block_number grown) (meta_number grown)
entry_state grown Unsure = in_doubt (kept_base grown)
entry_state grown Waiting = is_waiting

-- an entry, by what is kept beside it
abbrev pub book_entry : Option Grown → Entry → BookEntry
book_entry grown entry =
    record { stamp = entry.stamp; len = entry.len; vol = entry.vol; rev = entry.rev; state = entry_state grown entry.state }

-- a leftover
abbrev pub book_leftover : Leftover → BookLeftover
book_leftover leftover =
    record { stamp = leftover.stamp; vol = leftover.vol; file = leftover.file; len = leftover.len; held = leftover.held }

-- the books of a block with this entry, what is kept beside it, and these leftovers
abbrev pub books_with : Option Grown → Option Entry → List BookLeftover → BlockBooks
books_with grown entry leftovers = books_of (option_map (book_entry grown) entry) leftovers None

-- the leftovers of a block
abbrev pub left_at : Books → ℕ → List BookLeftover
left_at books id = map book_leftover (leftovers_of books id)

-- the books of one block
abbrev pub block_books : Books → ℕ → BlockBooks
block_books books id = books_with (grown_at books id) (entry_at books id) (left_at books id)

-- the books of one block become these, those of all others stay
abbrev pub BooksBecome : ℕ → BlockBooks → Books → Books → Type 0
BooksBecome id now old new = (other : ℕ) → block_books new other ≡ (if other == id then now else block_books old other)

-- the books of all blocks stay
abbrev pub BooksStay : Books → Books → Type 0
BooksStay old new = (id : ℕ) → block_books new id ≡ block_books old id

-- the files of the writer of an entry, as leftovers that are held
abbrev pub block_held : BookEntry → BookLeftover
block_held entry = record { stamp = entry.stamp; vol = entry.vol; file = WritingBlock; len = entry.len; held = true }

abbrev pub meta_held : BookEntry → BookLeftover
meta_held entry = record { stamp = entry.stamp; vol = entry.vol; file = WritingMeta entry.stamp; len = 0; held = true }

abbrev pub held_block : Entry → BookLeftover
held_block entry = block_held (book_entry None entry)

abbrev pub held_meta : Entry → BookLeftover
held_meta entry = meta_held (book_entry None entry)

-- the entry of a block that waits
abbrev pub waits : Entry → Entry
waits entry = record entry { state = Waiting }

-- a file is listed behind the other leftovers
abbrev pub with_leftover : BookLeftover → BlockBooks → BlockBooks
with_leftover leftover books = record books { leftovers = books.leftovers ++ leftover ∷ [] }

-- there is room for the two files that each open writer may leave
abbrev pub HasRoom : Books → Type 0
HasRoom books = 2 * writers books ≤ books.leftover_room

-- and for those of one more writer, and its entry
abbrev pub HasRoomForOne : Books → Type 0
HasRoomForOne books = (1 ≤ books.entry_room) × (2 * writers books + 2 ≤ books.leftover_room)
