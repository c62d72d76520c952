-- That a line was carried out, by a session that stands for the state of a run.
use Rattle.std.specs.Prelude.{ℕ, List, Option, ⊤, IsSome}
use Rattle.disk_model.specs.Worlds.{World}
use Rattle.disk_model.specs.Files.{Files}
use Rattle.disk_model.specs.Told.{CanLeave}
use Rattle.disk_model.specs.Marks.{Mark}
use Rattle.map_model.specs.Allows.{AllowsImage}
use Rattle.map_model.specs.Copies.{OneWhole}
use Rattle.map_model.specs.Cells.{Cells}
use Rattle.map_model.specs.Steps.{Command}
use Rattle.script_lang.specs.declared.reply.Reply.{Reply}
use Rattle.script_lang.specs.declared.line.Line.{Line}
use Rattle.run_model.specs.State.{RunState}
use Rattle.run_model.specs.Commands.{Trust, any_disks, telling_disks, sound_disks, CommandStep}
use Rattle.run_model.specs.Lines.{Does}
use Rattle.run_model.specs.Images.{CrashSafe}

-- what must be known of the disks: that they tell their content, and that it's sound
abbrev pub IsKnown : (Sound : Type 0) → Trust → Option (List World) → Type 0
IsKnown Sound any_disks told = ⊤
IsKnown Sound telling_disks told = IsSome told
IsKnown Sound sound_disks told = IsSome told × Sound

-- what the disks can leave is allowed by the cells of this state, and has one whole copy of each block at most
abbrev pub LeavesAllowed : Option (List World) → RunState → Type 0
LeavesAllowed told state = (image : Files) → CanLeave told image → AllowsImage state.cells image × OneWhole image

-- nothing is said of the cells
abbrev pub AnyCells : Cells → Type 0
AnyCells cells = ⊤

-- A command was carried out: the session stands for another state, to which the command's step leads, whatever is known
-- of the disks; and whatever a crash leaves meanwhile, the cells before or after allow.
pub record CarriesOut (Faulty : ℕ → ℕ → Type 0) (told : Option (List World)) (old : RunState) (before : Mark) (id : ℕ) (command : Command) (reply : Reply) (after : Mark)
    (StandsFor : RunState → Type 0) (Sound SoundNow : Cells → Type 0) (past since : ℕ → Files → Type 0) : Type 0 where
  pub new : RunState
  pub stands : StandsFor new
  pub step : (trust : Trust) → IsKnown (Sound old.cells) trust told → CommandStep trust Faulty old before id command reply new after
  pub crash : CrashSafe old.cells new.cells Sound SoundNow past since

-- A line was carried out: the session stands for another state, to which the line leads, whatever is known of the
-- disks.
pub record LineCarried (Faulty : ℕ → ℕ → Type 0) (told : Option (List World)) (old : RunState) (before : Mark) (line : Line) (reply : Reply) (after : Mark)
    (StandsFor : RunState → Type 0) (Sound SoundNow : Cells → Type 0) (past since : ℕ → Files → Type 0) : Type 0 where
  pub new : RunState
  pub stands : StandsFor new
  pub does : (trust : Trust) → IsKnown (Sound old.cells) trust told → Does trust Faulty old before line reply new after
  pub crash : CrashSafe old.cells new.cells Sound SoundNow past since
