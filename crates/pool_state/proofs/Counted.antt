-- What is counted of a pool's map is what the books of its blocks count.
use Rattle.std.proofs.Common.{◌≡◌, ◌+◌, ◌==◌, ◌&&◌, ℕ, if◌then◌else◌, List, [], ◌∷◌, Option, None, Some, refl, sym, ◌∙◌, ap}
use Rattle.std.specs.Prelude.{sum_by, map, option_map, option_and_then, find}
use Rattle.std.proofs.lemmas.List.Sums.{sum_by-cons}
use Rattle.replica_map.specs.declared.entry.Base.{Base}
use Rattle.replica_map.specs.declared.entry.Grown.{Grown}
use Rattle.replica_map.specs.declared.entry.State.{State}
use Rattle.replica_map.specs.declared.entry.State.TheVariants.{Finalised, Writing, Unsure, Waiting}
use Rattle.replica_map.specs.declared.leftover.Leftover.{Leftover}
use Rattle.replica_map.specs.declared.row.Row.{Row}
use Rattle.replica_map.specs.declared.ticket.Ticket.{Ticket}
use Rattle.replica_map.specs.Counting.{is_final as is_final_row, len_of_base, base_len, counted, row_use, leftover_use, ticket_use, row_replica, leftover_loose}
use Rattle.replica_map.specs.Books.{Books, leftovers_of, row_at, used}
use Rattle.replica_map.specs.Uses.{of_some, block_use, block_replicas, block_loose, IsSumOf}
use Rattle.replica_map.proofs.BlockSums.{sums_by}
use Rattle.pool_state.specs.Books.{book_base, kept_base, entry_state, book_entry, book_leftover, block_books}
use Rattle.pool_state.specs.Reports.{is_replica, entry_replicas, file_loose, books_replicas, AreLoose}
use Rattle.pool_state.specs.Uses.{base_use, state_use, entry_use, file_use, AreUses}

len_same : (base : Option Base) → base_use (option_map book_base base) ≡ len_of_base base
len_same None = refl
len_same (Some base) = refl

base_same : (grown : Option Grown) → base_use (kept_base grown) ≡ base_len grown
base_same None = refl
base_same (Some grown) = len_same grown.base

state_same : (grown : Option Grown) (state : State) (len : ℕ) → state_use (entry_state grown state) len ≡ counted state len (base_len grown)
state_same grown Finalised len = refl
state_same grown Writing len = ap (λ n. len + n) (base_same grown)
state_same grown Unsure len = ap (λ n. len + n) (base_same grown)
state_same grown Waiting len = refl

row_same : (vol : ℕ) (row : Option Row) →
    of_some (entry_use vol) (option_map (book_entry (option_and_then (λ r. r.grown) row)) (option_map (λ r. r.entry) row)) ≡ of_some (row_use vol) row
row_same vol None = refl
row_same vol (Some row) = ap (λ n. if row.entry.vol == vol then n else 0) (state_same row.grown row.entry.state row.entry.len)

files_same : (vol : ℕ) (leftovers : List Leftover) → sum_by (file_use vol) (map book_leftover leftovers) ≡ sum_by (leftover_use vol) leftovers
files_same vol [] = refl
files_same vol (leftover ∷ leftovers) = sum_by-cons (file_use vol) (book_leftover leftover) (map book_leftover leftovers)
    ∙ ap (λ n. leftover_use vol leftover + n) (files_same vol leftovers) ∙ sym (sum_by-cons (leftover_use vol) leftover leftovers)

-- WHAT A MAP WITHOUT MOVES COUNTS
pub counts : (map : Books) → map.tickets ≡ [] → ((vol : ℕ) → IsSumOf (block_use vol map) (used vol map)) → AreUses (block_books map) (λ vol. used vol map)
counts map none sums vol =
    sums_by (λ id.
    ap (λ (tickets : List Ticket). of_some (row_use vol) (row_at map id) + sum_by (leftover_use vol) (leftovers_of map id) + of_some (ticket_use vol) (find (λ ticket. ticket.id == id) tickets)) none
    ∙ ap (λ n. n + sum_by (leftover_use vol) (leftovers_of map id) + 0) (sym (row_same vol (row_at map id)))
    ∙ ap (λ n. of_some (entry_use vol) (block_books map id).entry + n + 0) (sym (files_same vol (leftovers_of map id)))) (sums vol)

-- ---- replicas, and leftovers that aren't held

replica_same : (grown : Option Grown) (state : State) → is_replica (entry_state grown state) ≡ is_final_row state
replica_same grown Finalised = refl
replica_same grown Writing = refl
replica_same grown Unsure = refl
replica_same grown Waiting = refl

row_replica_same : (vol : ℕ) (row : Option Row) →
    of_some (entry_replicas vol) (option_map (book_entry (option_and_then (λ r. r.grown) row)) (option_map (λ r. r.entry) row)) ≡ of_some (row_replica vol) row
row_replica_same vol None = refl
row_replica_same vol (Some row) = ap (λ b. if b && row.entry.vol == vol then 1 else 0) (replica_same row.grown row.entry.state)

loose_same : (leftovers : List Leftover) → sum_by file_loose (map book_leftover leftovers) ≡ sum_by leftover_loose leftovers
loose_same [] = refl
loose_same (leftover ∷ leftovers) = sum_by-cons file_loose (book_leftover leftover) (map book_leftover leftovers)
    ∙ ap (λ n. leftover_loose leftover + n) (loose_same leftovers) ∙ sym (sum_by-cons leftover_loose leftover leftovers)

-- HOW MANY REPLICAS A MAP COUNTS ON A VOLUME, and how many leftovers that aren't held
pub replicas_count : (books : Books) (vol count : ℕ) → IsSumOf (block_replicas vol books) count → IsSumOf (λ id. books_replicas vol (block_books books id)) count
replicas_count books vol count sum = sums_by (λ id. sym (row_replica_same vol (row_at books id))) sum

pub loose_count : (books : Books) (count : ℕ) → IsSumOf (block_loose books) count → AreLoose (block_books books) count
loose_count books count sum = sums_by (λ id. sym (loose_same (leftovers_of books id))) sum
