-- When the books say what was found of a block.
use Rattle.std.specs.Prelude.{ℕ, ◌≡◌, ◌≢◌, ◌≤◌, ◌⊎◌, ◌==◌, if◌then◌else◌, false, IsTrue, IsFalse, MatchBool, IsSome, List, [], ◌∷◌, ◌++◌, filter, map, All, Contains, Option, None, Some}
use Rattle.std.specs.List.{flat_map}
use Rattle.volume_layout.specs.Paths.{IsStamp, block_path, rbw_block}
use Rattle.disk_model.specs.Worlds.{World, IsAbsent, HasSize}
use Rattle.disk_model.specs.Told.{InEachWorld}
use Rattle.map_model.specs.Stands.{EntryState, is_final, is_waiting, Entry as BookEntry, Leftover as BookLeftover, BlockBooks}
use Rattle.map_model.specs.Tenures.{books_of}
use Rattle.dup_resolve.specs.declared.CopyRow.{CopyRow}
use Rattle.dup_resolve.specs.Picks.{IsAtLeast}
use Rattle.replica_map.specs.declared.entry.Entry.{Entry}
use Rattle.replica_map.specs.declared.entry.State.{State}
use Rattle.replica_map.specs.declared.row.Row.{Row}
use Rattle.replica_map.specs.declared.leftover.Leftover.{Leftover}
use Rattle.replica_map.specs.Books.{Books}
use Rattle.replica_map.specs.Counting.{is_writing}
use Rattle.pool_state.specs.Books.{book_leftover, block_books}
use Rattle.pool_survey.specs.declared.found.FoundFiles.{FoundFiles}
use Rattle.pool_survey.specs.declared.places.FoundOn.{FoundOn}
use Rattle.pool_open.specs.declared.outcome.Outcome.{Outcome}
use Rattle.pool_open.specs.declared.outcome.Outcome.TheVariants.{Final, Waiting, Absent}
use Rattle.pool_open.specs.Plan.{copy_stamp, leaves_block, leaves_some, kept_on}

-- the size of the file at a path of a volume, where one stands
abbrev pub IsSizeOf : Option (List World) → (vol : ℕ) → List ℕ → ℕ → Type 0
IsSizeOf told vol path size = InEachWorld told (λ world. (IsAbsent world vol path → ⊥) → HasSize world vol path size)

-- ---- what an opening makes of a block

-- this is one of a block's copies, with the size of its block file
pub record IsCopyFound (told : Option (List World)) (id : ℕ) (places : List FoundOn) (copy : CopyRow) : Type 0 where
  pub on : FoundOn
  pub found : Contains places on
  pub vol : on.vol ≡ copy.vol
  pub stamp : copy_stamp on.files ≡ Some copy.stamp
  pub size : IsSizeOf told copy.vol (block_path id) copy.len

-- a copy on this volume is among them
abbrev pub HasCopyOn : List CopyRow → ℕ → Type 0
HasCopyOn copies vol = (copy : CopyRow) × Contains copies copy × (copy.vol ≡ vol)

-- these are the copies of a block
pub record AreCopies (told : Option (List World)) (id : ℕ) (places : List FoundOn) (copies : List CopyRow) : Type 0 where
  pub each : All (IsCopyFound told id places) copies
  pub all : All (λ on. IsSome (copy_stamp on.files) → HasCopyOn copies on.vol) places

-- this copy of a block is at least each other by stamp, then length, then the lower volume
pub record IsKept (told : Option (List World)) (id : ℕ) (places : List FoundOn) (copy : CopyRow) : Type 0 where
  pub copies : List CopyRow
  pub are : AreCopies told id places copies
  pub one_of : Contains copies copy
  pub greatest : All (IsAtLeast None copy) copies

-- no copy was found
abbrev pub HasNoCopy : List FoundOn → Type 0
HasNoCopy places = All (λ on. copy_stamp on.files ≡ None) places

-- what an opening makes of a block of which files were found at these places: the replica that its greatest copy is; or
-- files that wait, where a block file stands and no copy; or nothing
abbrev pub IsOutcome : Option (List World) → ℕ → List FoundOn → Outcome → Type 0
IsOutcome told id places (Final copy) = IsKept told id places copy
IsOutcome told id places Waiting = HasNoCopy places × IsTrue (leaves_some places)
IsOutcome told id places Absent = HasNoCopy places × IsFalse (leaves_some places)

-- ---- what the books say of it

-- an entry on a volume
abbrev pub entry_of : (vol rev stamp len : ℕ) → EntryState → BookEntry
entry_of vol rev stamp len state = record { stamp = stamp; len = len; vol = vol; rev = rev; state = state }

-- the entry of the replica that a copy is
pub record IsFinalEntry (copy : CopyRow) (books : BlockBooks) : Type 0 where
  pub rev : ℕ
  pub is : books ≡ books_of (Some (entry_of copy.vol rev copy.stamp copy.len is_final)) [] None

-- the stamp is the greatest of these, or 1
pub record IsGreatestStamp (stamps : List ℕ) (stamp : ℕ) : Type 0 where
  pub in_range : IsStamp stamp
  pub above : All (λ other. other ≤ stamp) stamps
  pub one_of : Contains stamps stamp ⊎ (stamp ≡ 1)

-- the greatest of a stamp and these stamps
pub record IsGreatestOf (least : ℕ) (stamps : List ℕ) (stamp : ℕ) : Type 0 where
  pub in_range : IsStamp stamp
  pub at_least : least ≤ stamp
  pub above : All (λ other. other ≤ stamp) stamps
  pub one_of : Contains stamps stamp ⊎ (stamp ≡ least)

-- the files on one volume of a block that waits, as leftovers with their sizes
pub record IsHeldOn (told : Option (List World)) (id stamp : ℕ) (on : FoundOn) (left : List BookLeftover) : Type 0 where
  pub block_len : ℕ
  pub writing_len : ℕ
  pub is : left ≡ kept_on stamp block_len writing_len on
  pub block : IsTrue on.files.block → IsSizeOf told on.vol (block_path id) block_len
  pub writing : IsTrue on.files.writing → IsSizeOf told on.vol (rbw_block id) writing_len

-- and on several, one behind the other
abbrev pub AreHeld : Option (List World) → (id stamp : ℕ) → List FoundOn → List BookLeftover → Type 0
AreHeld told id stamp [] left = left ≡ []
AreHeld told id stamp (on ∷ places) left =
    (own : List BookLeftover) × (rest : List BookLeftover) × (left ≡ own ++ rest) × IsHeldOn told id stamp on own × AreHeld told id stamp places rest

-- the first place where a block file stands, finalised or being written
abbrev pub IsFirstLeft : List FoundOn → FoundOn → Type 0
IsFirstLeft [] first = ⊥
IsFirstLeft (on ∷ places) first = MatchBool (leaves_block on) (on ≡ first) (IsFirstLeft places first)

-- the size that an entry has whose first block file stands there: of the one that was being written, else of the finalised
-- one
abbrev pub first_path : ℕ → FoundFiles → List ℕ
first_path id files = if files.writing then rbw_block id else block_path id

-- the stamps of the metas that were being written
abbrev pub writing_stamps : List FoundOn → List ℕ
writing_stamps places = flat_map (λ on. on.files.writing_metas.items) places

-- the first volume on which a block file stands, with the size that the block's entry has; none where none stands
pub record IsSizeOfFirst (told : Option (List World)) (id : ℕ) (places : List FoundOn) (vol len : ℕ) : Type 0 where
  pub first : FoundOn
  pub is_first : IsFirstLeft places first
  pub vol_is : first.vol ≡ vol
  pub size : IsSizeOf told vol (first_path id first.files) len

-- The entry of a block that waits, with its files: the greatest stamp of a meta that was being written, the lowest volume on
-- which a block file stands, and the length of the one there that was being written, else of the finalised one.
pub record IsWaitingEntry (told : Option (List World)) (id : ℕ) (places : List FoundOn) (books : BlockBooks) : Type 0 where
  pub vol : ℕ
  pub rev : ℕ
  pub stamp : ℕ
  pub len : ℕ
  pub left : List BookLeftover
  pub is : books ≡ books_of (Some (entry_of vol rev stamp len is_waiting)) left None
  pub greatest : IsGreatestStamp (writing_stamps places) stamp
  pub held : AreHeld told id stamp places left
  pub first : IsSizeOfFirst told id places vol len

-- the books say nothing of the block
abbrev pub SaysNothing : BlockBooks → Type 0
SaysNothing books = books ≡ books_of None [] None

-- the books say what the opening makes of a block
abbrev pub SaysOutcome : Outcome → Option (List World) → ℕ → List FoundOn → BlockBooks → Type 0
SaysOutcome (Final copy) told id places books = IsFinalEntry copy books
SaysOutcome Waiting told id places books = IsWaitingEntry told id places books
SaysOutcome Absent told id places books = SaysNothing books

-- the books say what was found of a block
pub record SaysFound (told : Option (List World)) (id : ℕ) (places : List FoundOn) (books : BlockBooks) : Type 0 where
  pub outcome : Outcome
  pub is : IsOutcome told id places outcome
  pub says : SaysOutcome outcome told id places books

-- ---- rows and leftovers that are gathered

-- books with these rows and leftovers
abbrev pub gathered : List Row → List Leftover → Books
gathered rows leftovers = record { rows = rows; leftovers = leftovers; tickets = []; entry_room = 0; leftover_room = 0 }

-- the row of an entry beside which nothing is kept
abbrev pub alone : Entry → Row
alone entry = record { entry = entry; grown = None }

abbrev pub row_of : (id vol rev stamp len : ℕ) → State → Row
row_of id vol rev stamp len state = alone (record { id = id; stamp = stamp; len = len; vol = vol; rev = rev; state = state })

-- a row of one block with this revision, without a writer, was put behind the others
pub record AddsRow (id rev : ℕ) (old new : List Row) : Type 0 where
  pub row : Row
  pub is : new ≡ old ++ row ∷ []
  pub own : row.entry.id ≡ id
  pub drawn : row.entry.rev ≡ rev
  pub idle : is_writing row.entry.state ≡ false

-- or none was
abbrev pub MayAddRow : (id rev : ℕ) → List Row → List Row → Type 0
MayAddRow id rev old new = (new ≡ old) ⊎ AddsRow id rev old new

-- the leftovers of a block among these
abbrev pub left_among : List Leftover → ℕ → List BookLeftover
left_among leftovers id = map book_leftover (filter (λ leftover. leftover.id == id) leftovers)

-- leftovers of one block were put behind the others
pub record AddsLeftovers (id : ℕ) (added : List BookLeftover) (old new : List Leftover) : Type 0 where
  pub own : left_among new id ≡ left_among old id ++ added
  pub others : (other : ℕ) → other ≢ id → left_among new other ≡ left_among old other

-- the files of a block that waits were put behind the others: those on one volume, and on several
abbrev pub AddsHeldOn : Option (List World) → (id stamp : ℕ) → FoundOn → (old new : List Leftover) → Type 0
AddsHeldOn told id stamp on old new = (left : List BookLeftover) × IsHeldOn told id stamp on left × AddsLeftovers id left old new

abbrev pub AddsHeld : Option (List World) → (id stamp : ℕ) → List FoundOn → (old new : List Leftover) → Type 0
AddsHeld told id stamp places old new = (left : List BookLeftover) × AreHeld told id stamp places left × AddsLeftovers id left old new

-- or none does
abbrev pub IsHeldFirst : Option (List World) → ℕ → List FoundOn → Option (ℕ × ℕ) → Type 0
IsHeldFirst told id places None = IsFalse (leaves_some places)
IsHeldFirst told id places (Some found) = IsSizeOfFirst told id places found.0 found.1

-- the books say of other blocks what they said
abbrev pub KeepsOthers : ℕ → Books → Books → Type 0
KeepsOthers id old new = (other : ℕ) → other ≢ id → block_books new other ≡ block_books old other
