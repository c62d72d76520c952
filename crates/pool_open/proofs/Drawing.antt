-- The revision of a row that is put.
use Rattle.std.proofs.Common.{◌≡◌, ℕ, List, [], ◌∷◌, Option, None, length, ap, ◌∙◌, inl, inr}
use Rattle.std.proofs.lemmas.List.{length-append}
use Rattle.map_model.specs.Stands.{Entry}
use Rattle.replica_map.specs.declared.row.Row.{Row}
use Rattle.replica_map.specs.declared.leftover.Leftover.{Leftover}
use Rattle.pool_state.specs.Books.{book_entry, block_books}
use Rattle.pool_open.specs.Found.{SaysNothing, gathered, MayAddRow, left_among}
use Rattle.pool_open.proofs.Adding.{said, row_among, row_here, none_there}
use Rattle.pool_open.proofs.Numbers.{DrawsNext}

-- the entry that the books have of a block, by its row
abbrev entry_by : ℕ → List Leftover → Option Row → Option Entry
entry_by id leftovers row = (said row (left_among leftovers id)).entry

pub draws_next : (rows new : List Row) (leftovers new_left : List Leftover) (id rev : ℕ) → SaysNothing (block_books (gathered rows leftovers) id) → MayAddRow id rev rows new →
    DrawsNext (length rows) (length new) rev (block_books (gathered new new_left) id).entry
draws_next rows new leftovers new_left id rev nothing (inl same) = inl (
  ap (λ (r : List Row). entry_by id new_left (row_among r id)) same ∙ ap (entry_by id new_left) (none_there rows leftovers id nothing),
  ap length same,
)
draws_next rows new leftovers new_left id rev nothing (inr adds) = inr (
  book_entry adds.row.grown adds.row.entry,
  ap (λ (r : List Row). entry_by id new_left (row_among r id)) adds.is
      ∙ ap (entry_by id new_left) (row_here id rows adds.row (none_there rows leftovers id nothing) adds.own),
  adds.drawn,
  ap length adds.is ∙ length-append rows (adds.row ∷ []),
)

no_entry : (id : ℕ) (leftovers : List Leftover) (rows : List Row) → rows ≡ [] → (block_books (gathered rows leftovers) id).entry ≡ None
no_entry id leftovers rows none = ap (λ (r : List Row). entry_by id leftovers (row_among r id)) none

pub no_entries : (rows : List Row) (leftovers : List Leftover) → rows ≡ [] → (id : ℕ) → (block_books (gathered rows leftovers) id).entry ≡ None
no_entries rows leftovers none id = no_entry id leftovers rows none
