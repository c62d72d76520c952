-- What the crate's values are to a contract.
use Rattle.std.specs.Prelude.{ℕ, ◌≡◌, ◌≢◌, List}
use Rattle.volume_layout.specs.Paths.{IsBlockId, IsStamp, block_name, meta_name}
use Rattle.volume_layout.specs.declared.names.Named.{Named}
use Rattle.volume_layout.specs.declared.names.Named.TheVariants.{Block, Meta, Other}
use Rattle.volume_layout.specs.declared.paths.PathText.{PathText}

-- the text of a path
abbrev pub path_text : PathText → List ℕ
path_text path = path.text.bytes

-- what a file's name names: a block, a meta file, or neither
abbrev pub Names : List ℕ → Named → Type 0
Names name (Block id) = IsBlockId id × (name ≡ block_name id)
Names name (Meta id stamp) = IsBlockId id × IsStamp stamp × (name ≡ meta_name id stamp)
Names name Other = ((id : ℕ) → IsBlockId id → name ≢ block_name id)
    × ((id stamp : ℕ) → IsBlockId id → IsStamp stamp → name ≢ meta_name id stamp)

-- no name has two readings
abbrev pub NamesHaveOneReading : Type 0
NamesHaveOneReading = (name : List ℕ) (named other : Named) → Names name named → Names name other → named ≡ other
