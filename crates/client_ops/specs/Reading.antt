-- What the readers of a pair tell.
use Rattle.std.specs.Prelude.{ℕ, ◌≡◌, ◌<◌, ◌^◌, List, length, Option, Some}
use Rattle.pool_state.specs.declared.read_pair.ReadPair.{ReadPair}
use Rattle.pool_state.specs.Readers.{block_bytes, meta_bytes}

-- these are the bytes of the block file, and those of the meta file, fewer than 2^64
pub record Tells {D S T R : Type 0} (bytes_of : R → Option (List ℕ)) (pair : ReadPair D S T R) (all sums : List ℕ) : Type 0 where
  pub block_is : block_bytes bytes_of pair ≡ Some all
  pub meta_is : meta_bytes bytes_of pair ≡ Some sums
  pub few : length sums < 2 ^ 64
