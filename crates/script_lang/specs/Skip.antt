-- Why a move passes a block over
use Rattle.std.specs.Prelude.{ℕ, List, codes}
use Rattle.script_lang.specs.ReplyWords.{and_number}
use Rattle.script_lang.specs.declared.reply.skip.Skip.{Skip}
use Rattle.script_lang.specs.declared.reply.skip.Skip.TheVariants.{Gone, Writing, Unsure, Moving, Same, Leftover, NoRoom, Changed}

-- how it is printed
abbrev pub skip_text : Skip → List ℕ
skip_text Gone = codes "gone"
skip_text Writing = codes "writing"
skip_text Unsure = codes "unsure"
skip_text Moving = codes "moving"
skip_text Same = codes "same"
skip_text (Leftover stamp) = and_number (codes "leftover") stamp
skip_text (NoRoom need free) = and_number (and_number (codes "noroom") need) free
skip_text (Changed want have) = and_number (and_number (codes "changed") want) have
