-- What the books count on a volume, block by block.
use Rattle.std.specs.Prelude.{ℕ, zero, suc, ◌≡◌, ◌+◌, ◌≤◌, sum_by, Option, Some, None}
use Rattle.replica_map.specs.Counting.{row_use, leftover_use, ticket_use, row_replica, leftover_loose}
use Rattle.replica_map.specs.Books.{Books, row_at, leftovers_of, ticket_at}

-- what an item counts that may not be there
abbrev pub of_some : {X : Type 0} → (X → ℕ) → Option X → ℕ
of_some f None = 0
of_some f (Some x) = f x

-- what a block counts on a volume: its row, its leftovers and its ticket
abbrev pub block_use : ℕ → Books → ℕ → ℕ
block_use vol books id =
    of_some (row_use vol) (row_at books id) + sum_by (leftover_use vol) (leftovers_of books id) + of_some (ticket_use vol) (ticket_at books id)

-- how many whole replicas a block has on a volume, and how many leftovers of it aren't held
abbrev pub block_replicas : ℕ → Books → ℕ → ℕ
block_replicas vol books id = of_some (row_replica vol) (row_at books id)

abbrev pub block_loose : Books → ℕ → ℕ
block_loose books id = sum_by leftover_loose (leftovers_of books id)

-- the sum of a function of the numbers below a bound
abbrev pub sum_below : ℕ → (ℕ → ℕ) → ℕ
sum_below zero f = 0
sum_below (suc n) f = sum_below n f + f n

-- the number is the sum of a function of all numbers: from a bound on the function is 0, and the number is the sum of
-- the function below that bound
pub record IsSumOf (f : ℕ → ℕ) (sum : ℕ) : Type 0 where
  pub bound : ℕ
  pub past : (n : ℕ) → bound ≤ n → f n ≡ 0
  pub is : sum ≡ sum_below bound f

-- a function has at most one sum
abbrev pub SumsAreUnique : Type 0
SumsAreUnique = (f : ℕ → ℕ) (sum other : ℕ) → IsSumOf f sum → IsSumOf f other → sum ≡ other
