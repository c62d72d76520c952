-- What is answered to lines about scanners
use Rattle.std.specs.Prelude.{ℕ, List, codes}
use Rattle.script_lang.specs.ReplyWords.{and_number, and_text}
use Rattle.script_lang.specs.CursorMember.{cursor_member_text}
use Rattle.script_lang.specs.Kept.{kept_text}
use Rattle.meta_file.specs.Texts.{verdict_text}
use Rattle.script_lang.specs.declared.reply.scan_reply.ScanReply.{ScanReply}
use Rattle.script_lang.specs.declared.reply.scan_reply.ScanReply.TheVariants.{Listed, Differences, NoListing, FixedIgnored, FixedLost, FixedFound, FixedRemoved, FixedKept, NoDifference, CursorAt, CursorAbsent, CursorSyntax, CursorMember, Block, AtEnd, Verdict, NoCheck, Noted, Gone, Changed, Unchecked}

-- what it prints, without its line feed
abbrev pub scan_reply_text : ScanReply → List ℕ
scan_reply_text (Listed n) = and_number (codes "listed") n
scan_reply_text (Differences n) = and_number (codes "differences") n
scan_reply_text NoListing = codes "nolisting"
scan_reply_text FixedIgnored = codes "fixed ignored"
scan_reply_text FixedLost = codes "fixed lost"
scan_reply_text FixedFound = codes "fixed found"
scan_reply_text FixedRemoved = codes "fixed removed"
scan_reply_text (FixedKept kept) = and_text (codes "fixed kept") (kept_text kept)
scan_reply_text NoDifference = codes "nodiff"
scan_reply_text (CursorAt d1 d2 id) = and_number (and_number (and_number (codes "cursor") d1) d2) id
scan_reply_text CursorAbsent = codes "cursor none"
scan_reply_text CursorSyntax = codes "cursor syntax"
scan_reply_text (CursorMember member) = and_text (codes "cursor member") (cursor_member_text member)
scan_reply_text (Block id rev) = and_number (and_number (codes "block") id) rev
scan_reply_text AtEnd = codes "atend"
scan_reply_text (Verdict verdict) = and_text (codes "verdict") (verdict_text verdict)
scan_reply_text NoCheck = codes "nocheck"
scan_reply_text Noted = codes "noted"
scan_reply_text Gone = codes "gone"
scan_reply_text (Changed want have) = and_number (and_number (codes "changed") want) have
scan_reply_text Unchecked = codes "unchecked"
