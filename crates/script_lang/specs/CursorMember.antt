-- A member of a stored cursor
use Rattle.std.specs.Prelude.{ℕ, List, codes}
use Rattle.script_lang.specs.declared.reply.cursor_member.CursorMember.{CursorMember}
use Rattle.script_lang.specs.declared.reply.cursor_member.CursorMember.TheVariants.{AtEnd, D1, D2, Id, IterStartMs, LastSavedMs}

-- how it is printed
abbrev pub cursor_member_text : CursorMember → List ℕ
cursor_member_text AtEnd = codes "atEnd"
cursor_member_text D1 = codes "d1"
cursor_member_text D2 = codes "d2"
cursor_member_text Id = codes "id"
cursor_member_text IterStartMs = codes "iterStartMs"
cursor_member_text LastSavedMs = codes "lastSavedMs"
