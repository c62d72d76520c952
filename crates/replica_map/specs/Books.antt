-- What a replica map holds, as its callers see it.
use Rattle.std.specs.Prelude.{ℕ, ◌≡◌, ◌+◌, ◌==◌, ◌≢◌, if◌then◌else◌, List, [], ◌∷◌, ◌++◌, find, filter, position, slice_get, remove, sum_by, count_by, Option, Some, None, ◌⊎◌, option_map, option_and_then}
use Rattle.volume_layout.specs.Places.{IsBefore, block_place}
use Rattle.volume_layout.specs.declared.place.Place.{Place}
use Rattle.replica_map.specs.declared.entry.Entry.{Entry}
use Rattle.replica_map.specs.declared.entry.State.TheVariants.{Finalised}
use Rattle.replica_map.specs.declared.entry.Grown.{Grown}
use Rattle.replica_map.specs.declared.row.Row.{Row}
use Rattle.replica_map.specs.declared.leftover.Leftover.{Leftover}
use Rattle.replica_map.specs.declared.ticket.Ticket.{Ticket}
use Rattle.replica_map.specs.Counting.{is_writing, row_use, leftover_use, ticket_use, row_replica, leftover_loose}
use Rattle.replica_map.specs.Leftovers.{is_leftover_of}

-- the books: entries with what is kept beside them and tickets, both in ascending id, leftovers in listing order,
-- and how many more entries and leftovers there is room for
pub record Books : Type 0 where
  pub rows : List Row
  pub leftovers : List Leftover
  pub tickets : List Ticket
  pub entry_room : ℕ
  pub leftover_room : ℕ

-- the row of a block
abbrev pub row_at : Books → ℕ → Option Row
row_at books id = find (λ row. row.entry.id == id) books.rows

-- the entry of a block
abbrev pub entry_at : Books → ℕ → Option Entry
entry_at books id = option_map (λ row. row.entry) (row_at books id)

-- what is kept beside it
abbrev pub grown_at : Books → ℕ → Option Grown
grown_at books id = option_and_then (λ row. row.grown) (row_at books id)

-- the ticket of a block
abbrev pub ticket_at : Books → ℕ → Option Ticket
ticket_at books id = find (λ ticket. ticket.id == id) books.tickets

-- the leftovers of a block, in listing order
abbrev pub leftovers_of : Books → ℕ → List Leftover
leftovers_of books id = filter (λ leftover. leftover.id == id) books.leftovers

-- the counted use of a volume, in bytes
abbrev pub used : ℕ → Books → ℕ
used vol books = sum_by (row_use vol) books.rows + sum_by (leftover_use vol) books.leftovers + sum_by (ticket_use vol) books.tickets

-- how many whole replicas are on a volume, and how many leftovers aren't held
abbrev pub replicas : ℕ → Books → ℕ
replicas vol books = sum_by (row_replica vol) books.rows

abbrev pub loose : Books → ℕ
loose books = sum_by leftover_loose books.leftovers

-- how many entries have an open writer
abbrev pub writers : Books → ℕ
writers books = count_by (λ row. is_writing row.entry.state) books.rows

-- the entry is of a whole replica on the volume, past a place
pub record IsLater (vol : ℕ) (after : Place) (entry : Entry) : Type 0 where
  pub final : entry.state ≡ Finalised
  pub on : entry.vol ≡ vol
  pub later : IsBefore after (block_place entry.id)

-- it is the first of these
pub record IsNext (books : Books) (vol : ℕ) (after : Place) (entry : Entry) : Type 0 where
  pub there : entry_at books entry.id ≡ Some entry
  pub later : IsLater vol after entry
  pub first : (id : ℕ) (other : Entry) → entry_at books id ≡ Some other → IsLater vol after other →
      (id ≡ entry.id) ⊎ IsBefore (block_place entry.id) (block_place id)

-- there is none
abbrev pub HasNoLater : Books → ℕ → Place → Type 0
HasNoLater books vol after = (id : ℕ) (other : Entry) → entry_at books id ≡ Some other → ¬ IsLater vol after other

-- the entries, what is kept beside them, and their room stay
abbrev pub SameRows : Books → Books → Type 0
SameRows old new = (new.rows ≡ old.rows) × (new.entry_room ≡ old.entry_room)

-- the leftovers and their room stay
abbrev pub SameLeftovers : Books → Books → Type 0
SameLeftovers old new = (new.leftovers ≡ old.leftovers) × (new.leftover_room ≡ old.leftover_room)

-- what is looked up of each block stays
abbrev pub Keeps : {X : Type 0} → (Books → ℕ → X) → Books → Books → Type 0
Keeps look old new = (id : ℕ) → look new id ≡ look old id

-- what is looked up of one block becomes this value, of the others it stays
abbrev pub Puts : {X : Type 0} → (Books → ℕ → X) → ℕ → X → Books → Books → Type 0
Puts look id value old new = (other : ℕ) → look new other ≡ (if other == id then value else look old other)

-- a leftover is put behind those of its block
abbrev pub ListsLeftover : Leftover → Books → Books → Type 0
ListsLeftover leftover old new = (id : ℕ) →
    leftovers_of new id ≡ (if id == leftover.id then leftovers_of old id ++ leftover ∷ [] else leftovers_of old id)

-- the leftovers of other blocks than this leftover's stay
abbrev pub KeepsOthers : Leftover → Books → Books → Type 0
KeepsOthers leftover old new = (id : ℕ) → leftover.id ≢ id → leftovers_of new id ≡ leftovers_of old id

-- of each block whose first leftover this one at i is, it goes
abbrev pub DropsFirst : ℕ → Leftover → Books → Books → Type 0
DropsFirst i leftover old new = (id : ℕ) → position (is_leftover_of id None) old.leftovers ≡ Some i →
    leftovers_of old id ≡ leftover ∷ leftovers_of new id

-- the leftover at i is the first of a block: the block's others are those that are left without it
pub record IsFirstOf (id i : ℕ) (books : Books) : Type 0 where
  pub leftover : Leftover
  pub at : slice_get books.leftovers i ≡ Some leftover
  pub own : leftover.id ≡ id
  pub before : leftovers_of books id ≡ leftover ∷ leftovers_of (record books { leftovers = remove books.leftovers i }) id
