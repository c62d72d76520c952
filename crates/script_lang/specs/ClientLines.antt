-- A client's lines about a block, behind their first word.
use Rattle.std.specs.Prelude.{Result}
use Rattle.script_lang.specs.declared.LineFault.{LineFault}
use Rattle.script_lang.specs.declared.line.Line.{Line}
use Rattle.script_lang.specs.declared.line.Line.TheVariants.{Client}
use Rattle.script_lang.specs.declared.line.ClientLine.TheVariants.{Open, Grow, Push, Finish, Drop, Write, Append, Read, Delete}
use Rattle.script_lang.specs.Fields.{bytes_of}
use Rattle.script_lang.specs.Number.{id_of, number_of}
use Rattle.script_lang.specs.Words.{Cursor, behind_word, field, ends_with, ◌>>=◌}

-- ID STAMP NEED
abbrev pub open_line : Cursor → Result Line LineFault
open_line c = do
  id ← field id_of c
  stamp ← field id_of (behind_word c)
  need ← field number_of (behind_word (behind_word c))
  ends_with (behind_word (behind_word (behind_word c))) (Client (Open id stamp need))

-- ID STAMP MORE
abbrev pub grow_line : Cursor → Result Line LineFault
grow_line c = do
  id ← field id_of c
  stamp ← field id_of (behind_word c)
  more ← field number_of (behind_word (behind_word c))
  ends_with (behind_word (behind_word (behind_word c))) (Client (Grow id stamp more))

-- ID HEX
abbrev pub push_line : Cursor → Result Line LineFault
push_line c = do
  id ← field id_of c
  bytes ← field bytes_of (behind_word c)
  ends_with (behind_word (behind_word c)) (Client (Push id bytes))

-- ID
abbrev pub finish_line : Cursor → Result Line LineFault
finish_line c = do
  id ← field id_of c
  ends_with (behind_word c) (Client (Finish id))

-- ID
abbrev pub drop_line : Cursor → Result Line LineFault
drop_line c = do
  id ← field id_of c
  ends_with (behind_word c) (Client (Drop id))

-- ID STAMP HEX
abbrev pub write_line : Cursor → Result Line LineFault
write_line c = do
  id ← field id_of c
  stamp ← field id_of (behind_word c)
  bytes ← field bytes_of (behind_word (behind_word c))
  ends_with (behind_word (behind_word (behind_word c))) (Client (Write id stamp bytes))

-- ID STAMP HEX
abbrev pub append_line : Cursor → Result Line LineFault
append_line c = do
  id ← field id_of c
  stamp ← field id_of (behind_word c)
  bytes ← field bytes_of (behind_word (behind_word c))
  ends_with (behind_word (behind_word (behind_word c))) (Client (Append id stamp bytes))

-- ID
abbrev pub read_line : Cursor → Result Line LineFault
read_line c = do
  id ← field id_of c
  ends_with (behind_word c) (Client (Read id))

-- ID
abbrev pub delete_line : Cursor → Result Line LineFault
delete_line c = do
  id ← field id_of c
  ends_with (behind_word c) (Client (Delete id))
