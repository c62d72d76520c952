-- What is known of the meta files of replicas, and when the copies that are read match them.
use Rattle.std.specs.Prelude.{ℕ, ◌≡◌, ◌==◌, ◌&&◌, if◌then◌else◌, ⊤, List, IsSomeAnd}
use Rattle.volume_layout.specs.Paths.{IsBlockId}
use Rattle.disk_model.specs.Files.{Files}
use Rattle.map_model.specs.Cells.{Replica}
use Rattle.meta_file.specs.Checksums.{Matches}
use Rattle.map_model.specs.Copies.{Spot, BlockFiles, IsGreatestCopy, block_files}

-- the bytes of the meta file of a replica, by its block and its stamp
abbrev pub Metas : Type 0
Metas = ℕ → ℕ → List ℕ

-- with those of one replica
abbrev pub with_meta : Metas → ℕ → ℕ → List ℕ → Metas
with_meta metas id stamp meta = λ other s. if (other == id) && (s == stamp) then meta else metas other s

-- what is known of the meta files of replicas: nothing, that each matches its replica, or which bytes they have
pub data Knowledge : Type 0 where
  nothing : Knowledge
  matching : Knowledge
  exactly : (metas : Metas) → Knowledge

-- the meta file matches the replica's bytes
abbrev pub Verifies : List ℕ → Replica → Type 0
Verifies meta replica = Matches meta replica.bytes

-- what is known of the meta file of a block's replica
abbrev pub Fits : Knowledge → ℕ → List ℕ → Replica → Type 0
Fits nothing id meta replica = ⊤
Fits matching id meta replica = Verifies meta replica
Fits (exactly metas) id meta replica = meta ≡ metas id replica.stamp

-- what is known where the meta file of one more replica is
abbrev pub learned : ℕ → ℕ → List ℕ → Knowledge → Knowledge
learned id stamp meta nothing = nothing
learned id stamp meta matching = matching
learned id stamp meta (exactly metas) = exactly (with_meta metas id stamp meta)

-- every copy that is read of a block's files has a meta file of which this holds
abbrev pub HasSoundCopies : (List ℕ → Replica → Type 0) → BlockFiles → Type 0
HasSoundCopies IsMatch files = (spot : Spot) (replica : Replica) → IsGreatestCopy files spot replica →
    IsSomeAnd (files.meta spot replica.stamp) (λ meta. IsMatch meta replica)

-- and so of every block of an image
abbrev pub IsSoundBy : (ℕ → List ℕ → Replica → Type 0) → Files → Type 0
IsSoundBy IsMatch image = (id : ℕ) → IsBlockId id → HasSoundCopies (IsMatch id) (block_files image id)

-- every copy that is read of the image matches its meta file
abbrev pub IsSound : Files → Type 0
IsSound image = IsSoundBy (Fits matching) image
