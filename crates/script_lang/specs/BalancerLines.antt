-- Lines about the disk balancer's plan, behind their first word.
use Rattle.std.specs.Prelude.{Result, Ok}
use Rattle.script_lang.specs.declared.LineFault.{LineFault}
use Rattle.script_lang.specs.declared.line.Line.{Line}
use Rattle.script_lang.specs.declared.line.Line.TheVariants.{Balancer}
use Rattle.script_lang.specs.declared.line.BalancerLine.TheVariants.{Balance, Execute, Query, Cancel, Mover}
use Rattle.script_lang.specs.Fields.{percent_of, text_of, truth_of}
use Rattle.script_lang.specs.Number.{number_of}
use Rattle.script_lang.specs.Words.{Cursor, behind_word, field, rest_field, ends_with, ◌>>=◌}

-- T
abbrev pub balance_line : Cursor → Result Line LineFault
balance_line c = do
  t ← field percent_of c
  ends_with (behind_word c) (Balancer (Balance t))

-- ID VERSION FORCE JSON
abbrev pub execute_line : Cursor → Result Line LineFault
execute_line c = do
  id ← field text_of c
  version ← field number_of (behind_word c)
  force ← field truth_of (behind_word (behind_word c))
  json ← rest_field (behind_word (behind_word (behind_word c)))
  Ok (Balancer (Execute id version force json))

-- no further word
abbrev pub query_line : Cursor → Result Line LineFault
query_line c = ends_with c (Balancer Query)

-- ID
abbrev pub cancel_line : Cursor → Result Line LineFault
cancel_line c = do
  id ← field text_of c
  ends_with (behind_word c) (Balancer (Cancel id))

-- no further word
abbrev pub mover_line : Cursor → Result Line LineFault
mover_line c = ends_with c (Balancer Mover)
