use Rattle.std.proofs.Common.{◌≡◌, drop}
use Rattle.script_lang.proofs.TableLemmas.{meaning_in}
use Rattle.script_lang.proofs.verb.meaning_of.Given as goal

abbrev pub invariant-loop-row : goal.invariant-loop-row
invariant-loop-row g l = meaning_in l.table l.word ≡ meaning_in (drop l.row-index l.table) l.word
