-- What is answered to lines about moves and leftovers
use Rattle.std.specs.Prelude.{ℕ, List, codes}
use Rattle.script_lang.specs.ReplyWords.{and_number, and_text}
use Rattle.script_lang.specs.Skip.{skip_text}
use Rattle.script_lang.specs.declared.reply.move_reply.MoveReply.{MoveReply}
use Rattle.script_lang.specs.declared.reply.move_reply.MoveReply.TheVariants.{Moving, Skipped, NoMove, Copied, Sealed, Uncopied, Moved, Unsealed, Swept, Nothing}

-- what it prints, without its line feed
abbrev pub move_reply_text : MoveReply → List ℕ
move_reply_text (Moving len) = and_number (codes "moving") len
move_reply_text (Skipped why) = and_text (codes "skipped") (skip_text why)
move_reply_text NoMove = codes "nomove"
move_reply_text (Copied total) = and_number (codes "copied") total
move_reply_text Sealed = codes "sealed"
move_reply_text (Uncopied left) = and_number (codes "uncopied") left
move_reply_text (Moved bytes) = and_number (codes "moved") bytes
move_reply_text Unsealed = codes "unsealed"
move_reply_text (Swept id) = and_number (codes "swept") id
move_reply_text Nothing = codes "nothing"
