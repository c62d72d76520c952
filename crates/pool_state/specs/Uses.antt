-- What the books of a block count on a volume.
use Rattle.std.specs.Prelude.{ℕ, ◌≡◌, ◌+◌, ◌==◌, if◌then◌else◌, sum_by, Option, Some, None}
use Rattle.map_model.specs.Steps.{Room}
use Rattle.map_model.specs.Stands.{EntryState, is_final, is_written, in_doubt, is_waiting, Base, Entry, Leftover, Ticket, BlockBooks}
use Rattle.replica_map.specs.Counting.{len_of_file}
use Rattle.replica_map.specs.Uses.{of_some, IsSumOf}
use Rattle.pool_state.specs.Rooms.{Choosing, room_by, chosen}

-- the length of a base
abbrev pub base_use : Option Base → ℕ
base_use None = 0
base_use (Some base) = base.len

-- what an entry counts: a replica its length, a writer what it reserved and its base, a block in doubt what it counted
-- before, and one that waits nothing
abbrev pub state_use : EntryState → ℕ → ℕ
state_use is_final len = len
state_use (is_written base block meta) len = len + base_use base
state_use (in_doubt base) len = len + base_use base
state_use is_waiting len = 0

abbrev pub entry_use : ℕ → Entry → ℕ
entry_use vol entry = if entry.vol == vol then state_use entry.state entry.len else 0

-- a leftover counts its length if it is a block file, and a move its length on its destination
abbrev pub file_use : ℕ → Leftover → ℕ
file_use vol leftover = if leftover.vol == vol then len_of_file leftover.file leftover.len else 0

abbrev pub move_use : ℕ → Ticket → ℕ
move_use vol ticket = if ticket.dest == vol then ticket.len else 0

-- what the books of a block count on a volume
abbrev pub books_use : ℕ → BlockBooks → ℕ
books_use vol books = of_some (entry_use vol) books.entry + sum_by (file_use vol) books.leftovers + of_some (move_use vol) books.ticket

-- so much is used of each volume: the sum of what the blocks' books count on it
abbrev pub AreUses : (ℕ → BlockBooks) → (ℕ → ℕ) → Type 0
AreUses books uses = (vol : ℕ) → IsSumOf (λ id. books_use vol (books id)) (uses vol)

-- this is the room that these books leave, and the volume that is chosen by them for so many bytes
abbrev pub IsRoomOf : Choosing → (ℕ → BlockBooks) → Room → Type 0
IsRoomOf choosing books room = (uses : ℕ → ℕ) × AreUses books uses × (room ≡ room_by choosing uses)

abbrev pub IsChosen : Choosing → (ℕ → BlockBooks) → (need vol : ℕ) → Type 0
IsChosen choosing books need vol = (uses : ℕ → ℕ) × AreUses books uses × (vol ≡ chosen choosing uses need)
