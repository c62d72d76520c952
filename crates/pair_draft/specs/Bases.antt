-- The base of an append: what its files tell, and when its bytes are in the writer.
use Rattle.std.specs.Prelude.{ℕ, ◌≡◌, ◌<◌, ◌^◌, List, length, take, Option, Some}
use Rattle.disk_model.specs.Worlds.{World}
use Rattle.pair_draft.specs.declared.base.Basing.{Basing}
use Rattle.pair_draft.specs.Files.{file_bytes}
use Rattle.pair_draft.specs.Writers.{Writer, HasPushed}

-- these are the bytes of the base's block file, and those of its meta file, fewer than 2^64
pub record BaseTells {D S T R : Type 0} (bytes_of : R → Option (List ℕ)) (base : Basing D S T R) (all sums : List ℕ) : Type 0 where
  pub block_is : file_bytes bytes_of base.block ≡ Some all
  pub meta_is : file_bytes bytes_of base.meta ≡ Some sums
  pub few : length sums < 2 ^ 64

-- So many bytes were pushed, and where the base's block file tells its bytes, these are its first ones.
pub record HasBase (told : Option (List World)) (base : Option (List ℕ)) (len : ℕ) (w : Writer) : Type 0 where
  pub bytes : List ℕ
  pub len_is : length bytes ≡ len
  pub are : (all : List ℕ) → base ≡ Some all → bytes ≡ take len all
  pub pushed : HasPushed told w bytes
