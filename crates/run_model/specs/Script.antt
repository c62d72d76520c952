-- The commands of a script, and how it ends.
use Rattle.std.specs.Prelude.{ℕ, ◌+◌, if◌then◌else◌, List, [], ◌∷◌, ◌++◌, length, Result, Ok, Err}
use Rattle.line_io.specs.Lines.{terminated_lines, line_text, passes_limit}
use Rattle.script_lang.specs.declared.LineFault.{LineFault}
use Rattle.script_lang.specs.declared.LineFault.TheVariants.{Bad, Memory}
use Rattle.script_lang.specs.declared.line.Line.{Line}
use Rattle.script_lang.specs.Script.{line_of}
use Rattle.run_model.specs.Asking.{is_blank, is_carried}

-- at the end of the input, at the first line outside the language with the column of the word that does not fit, at the
-- first line that passes a limit, or at the first one that is not carried out yet
pub data Stop : Type 0 where
  AtEnd : Stop
  AtOutside : (line column : ℕ) → Stop
  AtLimit : (line : ℕ) → Stop
  AtLater : (line : ℕ) → Stop

-- the commands before the stop, in order
pub record Script : Type 0 where
  pub commands : List Line
  pub stop : Stop

abbrev pub stops : Stop → Script
stops stop = record { commands = []; stop = stop }

-- commands, and then a script
abbrev pub prepend : List Line → Script → Script
prepend commands rest = record { commands = commands ++ rest.commands; stop = rest.stop }

-- a line, and those behind it: the script stops at a command that isn't carried out yet
abbrev pub goes_on : ℕ → Line → Script → Script
goes_on number line rest =
    if is_blank line then rest else if is_carried line then record { commands = line ∷ rest.commands; stop = rest.stop } else stops (AtLater number)

-- what a line says, and then the lines behind it
abbrev pub script_after : ℕ → Result Line LineFault → Script → Script
script_after number (Ok line) rest = goes_on number line rest
script_after number (Err (Bad column)) rest = stops (AtOutside number column)
script_after number (Err Memory) rest = rest

-- the script of the lines behind so many lines and so many bytes
unfoldable pub script_from : ℕ → ℕ → List (List ℕ) → Script
script_from number before [] = stops AtEnd
script_from number before (line ∷ lines) =
    if passes_limit before line then stops (AtLimit (number + 1))
    else script_after (number + 1) (line_of (line_text line)) (script_from (number + 1) (before + length line) lines)

-- the script that the bytes are
abbrev pub script_of : List ℕ → Script
script_of bytes = script_from 0 0 (terminated_lines bytes)
