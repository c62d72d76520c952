-- Why a difference stays as it is
use Rattle.std.specs.Prelude.{ℕ, List, codes}
use Rattle.script_lang.specs.ReplyWords.{and_number}
use Rattle.script_lang.specs.declared.reply.kept.Kept.{Kept}
use Rattle.script_lang.specs.declared.reply.kept.Kept.TheVariants.{Length, NoMeta, Second, Worn}

-- how it is printed
abbrev pub kept_text : Kept → List ℕ
kept_text (Length want have) = and_number (and_number (codes "length") want) have
kept_text NoMeta = codes "nometa"
kept_text (Second stamp len) = and_number (and_number (codes "second") stamp) len
kept_text Worn = codes "worn"
