-- What stands under a name, as the world has it.
use Rattle.std.specs.Prelude.{◌≡◌, ℕ, zero, suc, ◌+◌, ◌-◌, ◌≤◌, Bool, true, false, List, [], ◌∷◌, length, Option, None, Some, if◌then◌else◌, string_bytes}
use Rattle.std.specs.BTreeMap.{BTreeMap}
use Rattle.std.specs.declared.string.String.{String}
use Rattle.disk_model.specs.Files.{is_place}
use Rattle.disk_model.specs.Worlds.{has_draft}
use Rattle.mem_disks.specs.declared.history.Change.{Change}
use Rattle.mem_disks.specs.declared.history.Change.TheVariants.{Created, Published, Removed, Put}
use Rattle.mem_disks.specs.declared.history.Recorded.{Recorded}
use Rattle.mem_disks.specs.declared.shelves.Entry.{Entry}
use Rattle.mem_disks.specs.declared.shelves.Entry.TheVariants.{Draft, File}
use Rattle.mem_disks.specs.Shelves.{held}
use Rattle.mem_disks.specs.History.{fork_after}

-- the bytes that a change settles
abbrev pub bytes_in : Change → List ℕ
bytes_in (Created number vol path) = []
bytes_in (Published vol path bytes target) = bytes.items
bytes_in (Removed vol path) = []
bytes_in (Put vol path bytes) = bytes.items

-- the bytes that the record of this index settled
abbrev pub bytes_at : List Recorded → ℕ → List ℕ
bytes_at [] index = []
bytes_at (recorded ∷ records) zero = bytes_in recorded.change
bytes_at (recorded ∷ records) (suc index) = bytes_at records index

-- the entry is a draft
abbrev pub is_draft : Option Entry → Bool
is_draft None = false
is_draft (Some Draft) = true
is_draft (Some (File index)) = false

-- the bytes of the entry's file
abbrev pub file_of : List Recorded → Option Entry → Option (List ℕ)
file_of records None = None
file_of records (Some Draft) = None
file_of records (Some (File index)) = Some (bytes_at records index)

-- the records that the entry reads end here
abbrev pub reads_end : Option Entry → ℕ
reads_end None = 0
reads_end (Some Draft) = 0
reads_end (Some (File index)) = index + 1

-- each draft that stands has its entry
abbrev pub ShowsDrafts : {Y : Type 0} → ℕ → List Recorded → List (BTreeMap (String Y) Entry) → Type 0
ShowsDrafts count records shelves = (vol : ℕ) (path : List ℕ) → 1 ≤ vol → vol ≤ count → has_draft (fork_after records).now vol path ≡ is_draft (held shelves (vol - 1) path)

-- each file that stands has its entry
abbrev pub ShowsFiles : {Y : Type 0} → ℕ → List Recorded → List (BTreeMap (String Y) Entry) → Type 0
ShowsFiles count records shelves = (vol : ℕ) (path : List ℕ) → 1 ≤ vol → vol ≤ count → (fork_after records).now.settled vol path ≡ file_of records (held shelves (vol - 1) path)

-- each entry reads a record that is there
abbrev pub ReadsWithin : {Y : Type 0} → List Recorded → List (BTreeMap (String Y) Entry) → Type 0
ReadsWithin records shelves = (index : ℕ) (path : List ℕ) → reads_end (held shelves index path) ≤ length records

-- what stands at a place after one more change, which is recorded at this index
abbrev pub entry_after : Change → ℕ → ℕ → List ℕ → Option Entry → Option Entry
entry_after (Created number v p) index vol path was = if is_place v (string_bytes p) vol path then Some Draft else was
entry_after (Published v p bytes target) index vol path was =
    if is_place v (string_bytes target) vol path then Some (File index) else (if is_place v (string_bytes p) vol path then None else was)
entry_after (Removed v p) index vol path was = if is_place v (string_bytes p) vol path then None else was
entry_after (Put v p bytes) index vol path was = if is_place v (string_bytes p) vol path then Some (File index) else was

-- the names follow a change
abbrev pub Follows : {Y : Type 0} → Change → ℕ → List (BTreeMap (String Y) Entry) → List (BTreeMap (String Y) Entry) → Type 0
Follows change index old new = (vol : ℕ) (path : List ℕ) → 1 ≤ vol → held new (vol - 1) path ≡ entry_after change index vol path (held old (vol - 1) path)
