-- What entries, leftovers and tickets count on a volume, and the order of the replicas.
use Rattle.std.specs.Prelude.{ℕ, ◌<◌, ◌+◌, ◌*◌, ◌^◌, ◌==◌, ◌&&◌, if◌then◌else◌, Bool, true, false, Option, Some, None}
use Rattle.volume_layout.specs.Places.{block_place}
use Rattle.volume_layout.specs.declared.place.Place.{Place}
use Rattle.replica_map.specs.declared.entry.State.{State}
use Rattle.replica_map.specs.declared.entry.State.TheVariants.{Finalised, Writing, Unsure, Waiting}
use Rattle.replica_map.specs.declared.entry.Base.{Base}
use Rattle.replica_map.specs.declared.entry.Grown.{Grown}
use Rattle.replica_map.specs.declared.row.Row.{Row}
use Rattle.volume_layout.specs.declared.block_file.BlockFile.{BlockFile}
use Rattle.volume_layout.specs.declared.block_file.BlockFile.TheVariants.{Block, Meta, WritingBlock, WritingMeta, TemporaryBlock, TemporaryMeta}
use Rattle.replica_map.specs.declared.leftover.Leftover.{Leftover}
use Rattle.replica_map.specs.declared.ticket.Ticket.{Ticket}

-- it is a whole replica
abbrev pub is_final : State → Bool
is_final Finalised = true
is_final Writing = false
is_final Unsure = false
is_final Waiting = false

-- it has an open writer
abbrev pub is_writing : State → Bool
is_writing Finalised = false
is_writing Writing = true
is_writing Unsure = false
is_writing Waiting = false

-- 1 of an entry in this state that has one
abbrev pub writes : State → ℕ
writes state = if is_writing state then 1 else 0

-- the length of the base that is kept, or 0
abbrev pub len_of_base : Option Base → ℕ
len_of_base None = 0
len_of_base (Some base) = base.len

abbrev pub base_len : Option Grown → ℕ
base_len None = 0
base_len (Some grown) = len_of_base grown.base

-- what an entry counts, by its state, length and the length of the base beside it: a replica its length, a writer what it
-- reserved and its base, a block in doubt what it counted before, and one that waits nothing itself
abbrev pub counted : State → (len base : ℕ) → ℕ
counted Finalised len base = len
counted Writing len base = len + base
counted Unsure len base = len + base
counted Waiting len base = 0

abbrev pub counted_len : Row → ℕ
counted_len row = counted row.entry.state row.entry.len (base_len row.grown)

-- a leftover counts its length if it is a block file
abbrev pub len_of_file : BlockFile → ℕ → ℕ
len_of_file Block n = n
len_of_file (Meta stamp) n = 0
len_of_file WritingBlock n = n
len_of_file (WritingMeta stamp) n = 0
len_of_file TemporaryBlock n = n
len_of_file (TemporaryMeta stamp) n = 0

abbrev pub leftover_len : Leftover → ℕ
leftover_len leftover = len_of_file leftover.file leftover.len

-- what each counts on a volume: an entry and a leftover on their own, a ticket on its destination
abbrev pub row_use : ℕ → Row → ℕ
row_use vol row = if row.entry.vol == vol then counted_len row else 0

abbrev pub leftover_use : ℕ → Leftover → ℕ
leftover_use vol leftover = if leftover.vol == vol then leftover_len leftover else 0

abbrev pub ticket_use : ℕ → Ticket → ℕ
ticket_use vol ticket = if ticket.dest == vol then ticket.len else 0

-- 1 of a whole replica on a volume, and of a leftover that isn't held
abbrev pub row_replica : ℕ → Row → ℕ
row_replica vol row = if is_final row.entry.state && row.entry.vol == vol then 1 else 0

abbrev pub leftover_loose : Leftover → ℕ
leftover_loose leftover = if leftover.held then 0 else 1

-- its numbers are in their types' ranges
abbrev pub IsSmall : Place → Type 0
IsSmall place = (place.d1 < 256) × (place.d2 < 256) × (place.id < 2 ^ 64)

-- a place on a volume as a number: by the volume, then the place
abbrev pub place_key : ℕ → Place → ℕ
place_key vol place = ((vol * 256 + place.d1) * 256 + place.d2) * 2 ^ 64 + place.id

abbrev pub row_key : Row → ℕ
row_key row = place_key row.entry.vol (block_place row.entry.id)

-- what a row adds to a sum over the places of the Finalised ones
abbrev pub indexed : (ℕ → ℕ) → Row → ℕ
indexed f row = if is_final row.entry.state then f (row_key row) else 0
