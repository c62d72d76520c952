-- One line of a script, and the lines of a run.
use Rattle.std.specs.Prelude.{ℕ, ◌≡◌, List, [], ◌∷◌, length, IfSome, IsSomeAnd, ⊤}
use Rattle.volume_layout.specs.Paths.{IsBlockId}
use Rattle.script_lang.specs.declared.line.Line.{Line}
use Rattle.script_lang.specs.declared.line.Line.TheVariants.{Node, Client}
use Rattle.script_lang.specs.declared.line.NodeLine.TheVariants.{Reopen, Report}
use Rattle.script_lang.specs.declared.reply.Reply.{Reply}
use Rattle.script_lang.specs.declared.reply.Reply.TheVariants.{Done}
use Rattle.map_model.specs.Cells.{Replica, Cells, final}
use Rattle.map_model.specs.Stands.{BlockBooks}
use Rattle.map_model.specs.Steps.{Reopened}
use Rattle.pool_open.specs.Outcome.{IsOpened}
use Rattle.pool_open.specs.Numbering.{ChoosesAnew, first_revision}
use Rattle.disk_model.specs.Marks.{Mark, IsLater}
use Rattle.run_model.specs.State.{RunState, Turn}
use Rattle.run_model.specs.Asking.{block_of, command_of}
use Rattle.run_model.specs.Books.{BooksOpened}
use Rattle.run_model.specs.Reports.{Reports}
use Rattle.run_model.specs.Commands.{Trust, any_disks, telling_disks, sound_disks, CommandStep}

-- what closing the pool and opening it again leaves of its cells: no writer is open, and where the disks tell, each
-- cell is as it was found
abbrev pub CellsReopened : Trust → Cells → Cells → Type 0
CellsReopened any_disks old new = (id : ℕ) → IsBlockId id → IsOpened (new id)
CellsReopened telling_disks old new = (id : ℕ) → IsBlockId id → Reopened (old id) (new id)
CellsReopened sound_disks old new = (id : ℕ) → IsBlockId id → Reopened (old id) (new id)

-- the entries that the books have are on the same volume
abbrev pub IsOnVolumeOf : (old new : BlockBooks) → Type 0
IsOnVolumeOf old new = IfSome old.entry (λ was. IsSomeAnd new.entry (λ now. now.vol ≡ was.vol))

-- each replica stays on its volume
abbrev pub StayOnVolumes : (old new : RunState) → Type 0
StayOnVolumes old new = (id : ℕ) → IsBlockId id → (replica : Replica) → old.cells id ≡ final replica → IsOnVolumeOf (old.books id) (new.books id)

-- where the disks tell, closing the pool and opening it again leaves each replica on its volume
abbrev pub VolumesReopened : Trust → (old new : RunState) → Type 0
VolumesReopened any_disks old new = ⊤
VolumesReopened telling_disks old new = StayOnVolumes old new
VolumesReopened sound_disks old new = StayOnVolumes old new

-- the line `reopen`
pub record Reopens (trust : Trust) (old : RunState) (reply : Reply) (new : RunState) : Type 0 where
  pub done : reply ≡ Done
  pub cells : CellsReopened trust old.cells new.cells
  pub metas : new.metas ≡ old.metas
  pub writers : (id : ℕ) → new.writers id ≡ old.writers id
  pub choosing : ChoosesAnew old.choosing.shares (first_revision old.choosing.next_rev) new.books new.choosing
  pub books : (id : ℕ) → IsBlockId id → BooksOpened (length old.choosing.shares) (new.cells id) (new.books id)
  pub placed : VolumesReopened trust old new

-- what each line does that is carried out
abbrev pub Does : Trust → (ℕ → ℕ → Type 0) → RunState → Mark → Line → Reply → RunState → Mark → Type 0
Does trust Faulty old before (Client line) reply new after =
    IsSomeAnd (command_of line) (λ command. CommandStep trust Faulty old before (block_of line) command reply new after)
Does trust Faulty old before (Node Reopen) reply new after = Reopens trust old reply new
Does trust Faulty old before (Node Report) reply new after = Reports old reply new
Does trust Faulty old before line reply new after = ⊥

-- one line: from this state and these counts it gives this reply and goes on to that state and those counts
pub record LineStep (trust : Trust) (Faulty : ℕ → ℕ → Type 0) (old : RunState) (before : Mark) (line : Line) (reply : Reply) (new : RunState) (after : Mark) : Type 0 where
  pub counts : IsLater before after
  pub does : Does trust Faulty old before line reply new after

-- the lines follow one another from this state and these counts on
abbrev pub Follows : Trust → (ℕ → ℕ → Type 0) → RunState → Mark → List Turn → Type 0
Follows trust Faulty state mark [] = ⊤
Follows trust Faulty state mark (turn ∷ turns) =
    LineStep trust Faulty state mark turn.line turn.reply turn.state turn.mark × Follows trust Faulty turn.state turn.mark turns
