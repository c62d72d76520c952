-- What a report shows of a run's state.
use Rattle.std.specs.Prelude.{ℕ, ◌≡◌, ◌+◌, List, [], ◌∷◌, length, ⊤}
use Rattle.density.specs.declared.volume_use.VolumeUse.{VolumeUse}
use Rattle.script_lang.specs.declared.reply.report.VolumeRow.{VolumeRow}
use Rattle.script_lang.specs.declared.reply.Reply.{Reply}
use Rattle.script_lang.specs.declared.reply.Reply.TheVariants.{Node}
use Rattle.script_lang.specs.declared.reply.node_reply.NodeReply.TheVariants.{Report}
use Rattle.map_model.specs.Stands.{BlockBooks}
use Rattle.pool_state.specs.Reports.{ShowsVolume, AreLoose}
use Rattle.run_model.specs.State.{RunState}

-- what a row says beside its number
abbrev pub row_use : VolumeRow → VolumeUse
row_use row = record { capacity = row.capacity; used = row.used; replicas = row.replicas }

-- the row shows this volume
pub record ShowsRow (shares : List ℕ) (books : ℕ → BlockBooks) (vol : ℕ) (row : VolumeRow) : Type 0 where
  pub number : row.i ≡ vol
  pub shows : ShowsVolume shares books vol (row_use row)

-- the rows show the volumes from this one on
abbrev pub ShowRows : (shares : List ℕ) (books : ℕ → BlockBooks) → (vol : ℕ) → List VolumeRow → Type 0
ShowRows shares books vol [] = ⊤
ShowRows shares books vol (row ∷ rows) = ShowsRow shares books vol row × ShowRows shares books (vol + 1) rows

-- THE LINE `report`: a row for each volume, and how many leftovers aren't held. It changes nothing.
pub record Reports (old : RunState) (reply : Reply) (new : RunState) : Type 0 where
  pub same : new ≡ old
  pub leftovers : ℕ
  pub rows : List VolumeRow
  pub is : reply ≡ Node (Report (length rows) leftovers rows)
  pub each_volume : length rows ≡ length old.choosing.shares
  pub shows : ShowRows old.choosing.shares old.books 1 rows
  pub loose : AreLoose old.books leftovers
