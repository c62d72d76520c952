-- The lines of a script.
use Rattle.std.specs.Prelude.{ℕ, ◌==◌, Bool, true, if◌then◌else◌, List, [], ◌∷◌, Result, Ok}
use Rattle.script_lang.specs.declared.LineFault.{LineFault}
use Rattle.script_lang.specs.declared.line.Line.{Line}
use Rattle.script_lang.specs.declared.line.Line.TheVariants.{Blank}
use Rattle.script_lang.specs.declared.verb.Verb.{Verb}
use Rattle.script_lang.specs.declared.verb.Verb.TheVariants.{Node, Client, Move, Balancer, Scan}
use Rattle.script_lang.specs.declared.verb.NodeVerb.{NodeVerb}
use Rattle.script_lang.specs.declared.verb.NodeVerb.TheVariants.{At, Use, Reopen, Report, Fill}
use Rattle.script_lang.specs.declared.verb.ClientVerb.{ClientVerb}
use Rattle.script_lang.specs.declared.verb.ClientVerb.TheVariants.{Open, Grow, Push, Finish, Drop, Write, Append, Read, Delete}
use Rattle.script_lang.specs.declared.verb.MoveVerb.{MoveVerb}
use Rattle.script_lang.specs.declared.verb.MoveVerb.TheVariants.{Begin, Copy, Seal, Publish, Drop as DropMove, Sweep}
use Rattle.script_lang.specs.declared.verb.BalancerVerb.{BalancerVerb}
use Rattle.script_lang.specs.declared.verb.BalancerVerb.TheVariants.{Balance, Execute, Query, Cancel, Mover}
use Rattle.script_lang.specs.declared.verb.ScanVerb.{ScanVerb}
use Rattle.script_lang.specs.declared.verb.ScanVerb.TheVariants.{DirList, DirDiff, DirFix, VolLoad, VolNext, VolCheck, VolReport, Cursor as SaveCursor}
use Rattle.script_lang.specs.NodeLines.{at_line, use_line, reopen_line, report_line, fill_line}
use Rattle.script_lang.specs.ClientLines.{open_line, grow_line, push_line, finish_line, drop_line, write_line, append_line, read_line, delete_line}
use Rattle.script_lang.specs.MoveLines.{mbegin_line, mcopy_line, mseal_line, mpublish_line, mdrop_line, sweep_line}
use Rattle.script_lang.specs.BalancerLines.{balance_line, execute_line, query_line, cancel_line, mover_line}
use Rattle.script_lang.specs.ScanLines.{dirlist_line, dirdiff_line, dirfix_line, volload_line, volnext_line, volcheck_line, volreport_line, cursor_line}
use Rattle.script_lang.specs.Verbs.{verb_of}
use Rattle.script_lang.specs.Words.{Cursor, start_of, behind_word, field, ◌>>=◌}

-- a line about the whole node
abbrev pub node_line : NodeVerb → Cursor → Result Line LineFault
node_line At = at_line
node_line Use = use_line
node_line Reopen = reopen_line
node_line Report = report_line
node_line Fill = fill_line

-- a client's line about a block
abbrev pub client_line : ClientVerb → Cursor → Result Line LineFault
client_line Open = open_line
client_line Grow = grow_line
client_line Push = push_line
client_line Finish = finish_line
client_line Drop = drop_line
client_line Write = write_line
client_line Append = append_line
client_line Read = read_line
client_line Delete = delete_line

-- a line about the move of a replica
abbrev pub move_line : MoveVerb → Cursor → Result Line LineFault
move_line Begin = mbegin_line
move_line Copy = mcopy_line
move_line Seal = mseal_line
move_line Publish = mpublish_line
move_line DropMove = mdrop_line
move_line Sweep = sweep_line

-- a line about the disk balancer's plan
abbrev pub balancer_line : BalancerVerb → Cursor → Result Line LineFault
balancer_line Balance = balance_line
balancer_line Execute = execute_line
balancer_line Query = query_line
balancer_line Cancel = cancel_line
balancer_line Mover = mover_line

-- a line about the scanners
abbrev pub scan_line : ScanVerb → Cursor → Result Line LineFault
scan_line DirList = dirlist_line
scan_line DirDiff = dirdiff_line
scan_line DirFix = dirfix_line
scan_line VolLoad = volload_line
scan_line VolNext = volnext_line
scan_line VolCheck = volcheck_line
scan_line VolReport = volreport_line
scan_line SaveCursor = cursor_line

-- a line behind its first word
abbrev pub line_after : Verb → Cursor → Result Line LineFault
line_after (Node verb) = node_line verb
line_after (Client verb) = client_line verb
line_after (Move verb) = move_line verb
line_after (Balancer verb) = balancer_line verb
line_after (Scan verb) = scan_line verb

-- an empty line, or one that begins with `#`
abbrev pub is_blank : List ℕ → Bool
is_blank [] = true
is_blank (b ∷ text) = b == 35

-- a line with words
abbrev pub words_line : Cursor → Result Line LineFault
words_line c = do
  verb ← field verb_of c
  line_after verb (behind_word c)

-- the line that a text is, or the column of its first word that does not fit
unfoldable pub line_of : List ℕ → Result Line LineFault
line_of text = if is_blank text then Ok Blank else words_line (start_of text)
