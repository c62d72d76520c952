-- The revisions of the entries that an opening makes, and what its pool chooses by.
use Rattle.std.specs.Prelude.{ℕ, ◌≡◌, ◌+◌, ◌^◌, min, List, IfSome, Option, None, Some}
use Rattle.map_model.specs.Stands.{Entry, BlockBooks}
use Rattle.replica_map.specs.Uses.{sum_below, IsSumOf}
use Rattle.pool_state.specs.Rooms.{Choosing}

-- how many entries the books have of a block, and of the blocks with lower ids
abbrev pub one_for : Option Entry → ℕ
one_for None = 0
one_for (Some entry) = 1

abbrev pub entries_of : BlockBooks → ℕ
entries_of books = one_for books.entry

abbrev pub entries_below : (ℕ → BlockBooks) → ℕ → ℕ
entries_below books id = sum_below id (λ other. entries_of (books other))

-- The entries have revisions from the first one on, in ascending id; after them comes the next one.
pub record IsNumbered (first : ℕ) (books : ℕ → BlockBooks) (next : ℕ) : Type 0 where
  pub each : (id : ℕ) → IfSome (books id).entry (λ entry. entry.rev ≡ first + entries_below books id)
  pub count : ℕ
  pub all : IsSumOf (λ id. entries_of (books id)) count
  pub next_is : next ≡ first + count

-- the first revision of a pool that is opened again
abbrev pub first_revision : (next_rev : ℕ) → ℕ
first_revision next_rev = min next_rev (2 ^ 63)

-- An opened pool chooses by these shares, from volume 1 on, and its entries have the revisions from the first one on.
pub record ChoosesAnew (shares : List ℕ) (first : ℕ) (books : ℕ → BlockBooks) (choosing : Choosing) : Type 0 where
  pub shared : choosing.shares ≡ shares
  pub pointer : choosing.pointer ≡ 1
  pub numbered : IsNumbered first books choosing.next_rev
