-- The rows of an input, and where it stops.
use Rattle.std.specs.Prelude.{ℕ, ◌+◌, ◌^◌, ◌≤◌, nat_le, ◌||◌, Bool, List, [], ◌∷◌, ◌++◌, length, map, All, Option, Result, Ok, Err, if◌then◌else◌, option_and_then}
use Rattle.std.specs.List.{list_any}
use Rattle.std.specs.Str.{bytes_eq}
use Rattle.density.specs.declared.volume_use.VolumeUse.{VolumeUse}
use Rattle.line_io.specs.Lines.{terminated_lines, line_text, passes_limit}
use Rattle.script_lang.specs.declared.LineFault.{LineFault}
use Rattle.script_lang.specs.declared.LineFault.TheVariants.{Bad, Memory}
use Rattle.script_lang.specs.Number.{number_of, within}
use Rattle.script_lang.specs.Script.{is_blank}
use Rattle.script_lang.specs.Words.{Cursor, first_word, behind_word, field, ends_with, ◌>>=◌}
use Rattle.plan_tool.specs.Options.{node_name}
use Rattle.plan_tool.specs.declared.row.Row.{Row}

-- a number of bytes from `low` to 2^54
abbrev pub bytes_from : ℕ → List ℕ → Option ℕ
bytes_from low word = option_and_then (within low (2 ^ 54 + 1)) (number_of word)

-- UUID CAPACITY USED
abbrev pub row_fields : Cursor → Result Row LineFault
row_fields c = do
  uuid ← field node_name c
  capacity ← field (bytes_from 1) (behind_word c)
  used ← field (bytes_from 0) (behind_word (behind_word c))
  ends_with (behind_word (behind_word (behind_word c))) (record { uuid = uuid; capacity = capacity; used = used })

-- a line begins with the UUID of one of the rows
abbrev pub stands_before : List Row → List ℕ → Bool
stands_before rows text = list_any (λ row. bytes_eq (first_word text) row.uuid) rows

-- The row that a text is behind others, or the column of its first word that does not fit: the first one where there are 64
-- rows already, or one of the same UUID.
unfoldable pub row_of : List Row → List ℕ → Result Row LineFault
row_of rows text =
    if nat_le 64 (length rows) || stands_before rows text then Err (Bad 1)
    else row_fields (record { line = text; at = 0 })

-- at the end of the input, at its first line outside the form with the column of the word that does not fit, or at the first that passes a limit
pub data Stop : Type 0 where
  AtEnd : Stop
  AtOutside : (line column : ℕ) → Stop
  AtLimit : (line : ℕ) → Stop

-- the rows before the stop, in order
pub record Input : Type 0 where
  pub rows : List Row
  pub stop : Stop

-- what a line says, and then the lines behind it
abbrev pub input_after : ℕ → List Row → Result Row LineFault → (List Row → Input) → Input
input_after number rows (Ok row) rest = rest (rows ++ row ∷ [])
input_after number rows (Err (Bad column)) rest = record { rows = rows; stop = AtOutside number column }
input_after number rows (Err Memory) rest = rest rows

-- an empty line, and one that begins with `#`, is passed over
abbrev pub input_by : ℕ → List Row → List ℕ → (List Row → Input) → Input
input_by number rows text rest = if is_blank text then rest rows else input_after number rows (row_of rows text) rest

-- the input of the lines behind so many lines, so many bytes and these rows
unfoldable pub input_from : ℕ → ℕ → List Row → List (List ℕ) → Input
input_from number before rows [] = record { rows = rows; stop = AtEnd }
input_from number before rows (line ∷ lines) =
    if passes_limit before line then record { rows = rows; stop = AtLimit (number + 1) }
    else input_by (number + 1) rows (line_text line) (λ more. input_from (number + 1) (before + length line) more lines)

-- the input that the bytes are
abbrev pub input_of : List ℕ → Input
input_of bytes = input_from 0 0 [] (terminated_lines bytes)

-- what a row says of its volume, to the planner
abbrev pub use_of : Row → VolumeUse
use_of row = record { capacity = row.capacity; used = row.used; replicas = 0 }

abbrev pub uses_of : List Row → List VolumeUse
uses_of rows = map use_of rows

-- the numbers of a row are within the limits
pub record IsRow (row : Row) : Type 0 where
  pub some : 1 ≤ row.capacity
  pub capacity : row.capacity ≤ 2 ^ 54
  pub used : row.used ≤ 2 ^ 54

-- at most 64 rows, each within the limits
pub record AreRows (rows : List Row) : Type 0 where
  pub few : length rows ≤ 64
  pub each : All IsRow rows
