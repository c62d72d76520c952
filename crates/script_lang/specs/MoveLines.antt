-- Lines about the move of a replica from one volume to another, behind their first word.
use Rattle.std.specs.Prelude.{Result}
use Rattle.script_lang.specs.declared.LineFault.{LineFault}
use Rattle.script_lang.specs.declared.line.Line.{Line}
use Rattle.script_lang.specs.declared.line.Line.TheVariants.{Move}
use Rattle.script_lang.specs.declared.line.MoveLine.TheVariants.{Begin, Copy, Seal, Publish, Drop, Sweep}
use Rattle.script_lang.specs.Fields.{volume_number_of}
use Rattle.script_lang.specs.Number.{id_of, number_of}
use Rattle.script_lang.specs.Words.{Cursor, behind_word, field, ends_with, ◌>>=◌}

-- ID VOL
abbrev pub mbegin_line : Cursor → Result Line LineFault
mbegin_line c = do
  id ← field id_of c
  vol ← field volume_number_of (behind_word c)
  ends_with (behind_word (behind_word c)) (Move (Begin id vol))

-- ID N
abbrev pub mcopy_line : Cursor → Result Line LineFault
mcopy_line c = do
  id ← field id_of c
  n ← field number_of (behind_word c)
  ends_with (behind_word (behind_word c)) (Move (Copy id n))

-- ID
abbrev pub mseal_line : Cursor → Result Line LineFault
mseal_line c = do
  id ← field id_of c
  ends_with (behind_word c) (Move (Seal id))

-- ID
abbrev pub mpublish_line : Cursor → Result Line LineFault
mpublish_line c = do
  id ← field id_of c
  ends_with (behind_word c) (Move (Publish id))

-- ID
abbrev pub mdrop_line : Cursor → Result Line LineFault
mdrop_line c = do
  id ← field id_of c
  ends_with (behind_word c) (Move (Drop id))

-- no further word
abbrev pub sweep_line : Cursor → Result Line LineFault
sweep_line c = ends_with c (Move Sweep)
