-- Lines about the directory scanner and the volume scanner, behind their first word.
use Rattle.std.specs.Prelude.{Result}
use Rattle.script_lang.specs.declared.LineFault.{LineFault}
use Rattle.script_lang.specs.declared.line.Line.{Line}
use Rattle.script_lang.specs.declared.line.Line.TheVariants.{Scan}
use Rattle.script_lang.specs.declared.line.ScanLine.TheVariants.{DirList, DirDiff, DirFix, VolLoad, VolNext, VolCheck, VolReport, Cursor as CursorLine}
use Rattle.script_lang.specs.Fields.{subdir_of, volume_number_of}
use Rattle.script_lang.specs.Words.{Cursor, behind_word, field, ends_with, ◌>>=◌}

-- VOL D1 D2
abbrev pub dirlist_line : Cursor → Result Line LineFault
dirlist_line c = do
  vol ← field volume_number_of c
  d1 ← field subdir_of (behind_word c)
  d2 ← field subdir_of (behind_word (behind_word c))
  ends_with (behind_word (behind_word (behind_word c))) (Scan (DirList vol d1 d2))

-- no further word
abbrev pub dirdiff_line : Cursor → Result Line LineFault
dirdiff_line c = ends_with c (Scan DirDiff)

-- no further word
abbrev pub dirfix_line : Cursor → Result Line LineFault
dirfix_line c = ends_with c (Scan DirFix)

-- VOL
abbrev pub volload_line : Cursor → Result Line LineFault
volload_line c = do
  vol ← field volume_number_of c
  ends_with (behind_word c) (Scan (VolLoad vol))

-- VOL
abbrev pub volnext_line : Cursor → Result Line LineFault
volnext_line c = do
  vol ← field volume_number_of c
  ends_with (behind_word c) (Scan (VolNext vol))

-- VOL
abbrev pub volcheck_line : Cursor → Result Line LineFault
volcheck_line c = do
  vol ← field volume_number_of c
  ends_with (behind_word c) (Scan (VolCheck vol))

-- VOL
abbrev pub volreport_line : Cursor → Result Line LineFault
volreport_line c = do
  vol ← field volume_number_of c
  ends_with (behind_word c) (Scan (VolReport vol))

-- VOL
abbrev pub cursor_line : Cursor → Result Line LineFault
cursor_line c = do
  vol ← field volume_number_of c
  ends_with (behind_word c) (Scan (CursorLine vol))
