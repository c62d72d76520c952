-- Lines about the whole node, behind their first word.
use Rattle.std.specs.Prelude.{Result}
use Rattle.script_lang.specs.declared.LineFault.{LineFault}
use Rattle.script_lang.specs.declared.line.Line.{Line}
use Rattle.script_lang.specs.declared.line.Line.TheVariants.{Node}
use Rattle.script_lang.specs.declared.line.NodeLine.TheVariants.{At, Use, Reopen, Report, Fill}
use Rattle.script_lang.specs.Fields.{fill_count_of, text_of}
use Rattle.script_lang.specs.Number.{number_of}
use Rattle.script_lang.specs.Words.{Cursor, behind_word, field, ends_with, ◌>>=◌}

-- MS
abbrev pub at_line : Cursor → Result Line LineFault
at_line c = do
  ms ← field number_of c
  ends_with (behind_word c) (Node (At ms))

-- POOL
abbrev pub use_line : Cursor → Result Line LineFault
use_line c = do
  pool ← field text_of c
  ends_with (behind_word c) (Node (Use pool))

-- no further word
abbrev pub reopen_line : Cursor → Result Line LineFault
reopen_line c = ends_with c (Node Reopen)

-- no further word
abbrev pub report_line : Cursor → Result Line LineFault
report_line c = ends_with c (Node Report)

-- COUNT SEED
abbrev pub fill_line : Cursor → Result Line LineFault
fill_line c = do
  count ← field fill_count_of c
  seed ← field number_of (behind_word c)
  ends_with (behind_word (behind_word c)) (Node (Fill count seed))
