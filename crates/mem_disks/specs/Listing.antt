-- The names of a directory on one volume.
use Rattle.std.specs.Prelude.{ℕ, List, All, Contains, IsSome}
use Rattle.std.specs.BTreeMap.{BTreeMap, get_by_text}
use Rattle.std.specs.declared.string.String.{String}
use Rattle.disk_model.specs.Files.{path_in}
use Rattle.disk_model.specs.Names.{IsInOrder}
use Rattle.disk_model.specs.Worlds.{IsFileName}
use Rattle.mem_disks.specs.declared.shelves.Entry.{Entry}

-- something stands on the shelf under this name in the directory
pub record IsHeld {Y : Type 0} (shelf : BTreeMap (String Y) Entry) (dir name : List ℕ) : Type 0 where
  pub is_name : IsFileName name
  pub stands : IsSome (get_by_text shelf (path_in dir name))

-- the names are those of the directory, sorted by bytes, each once
pub record Lists {Y : Type 0} (shelf : BTreeMap (String Y) Entry) (dir : List ℕ) (names : List (List ℕ)) : Type 0 where
  pub sorted : IsInOrder names
  pub only : All (λ name. IsHeld shelf dir name) names
  pub all : (name : List ℕ) → IsHeld shelf dir name → Contains names name
