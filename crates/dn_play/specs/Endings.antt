-- What a session reads and what it shows.
use Rattle.std.specs.Prelude.{ℕ, ◌≡◌, ◌≤◌, List, [], ◌∷◌, ◌++◌, length}
use Rattle.std.specs.List.{flat_map}
use Rattle.script_lang.specs.declared.line.Line.{Line}
use Rattle.script_lang.specs.declared.line.Line.TheVariants.{Node}
use Rattle.script_lang.specs.declared.line.NodeLine.TheVariants.{Reopen}
use Rattle.script_lang.specs.declared.reply.Reply.{Reply}
use Rattle.script_lang.specs.Reply.{reply_line}
use Rattle.run_end.specs.declared.ending.Ending.{Ending}
use Rattle.run_end.specs.declared.ending.Ending.TheVariants.{Complete, Usage, NoMemory, Outside, OpenFault, Limit, Later, NotCarriedOut}
use Rattle.run_model.specs.Script.{Stop, AtEnd, AtOutside, AtLimit, AtLater, script_of}

-- the status of the place where a script stops
abbrev pub status_at : Stop → ℕ
status_at AtEnd = 0
status_at (AtOutside line column) = 5
status_at (AtLimit line) = 7
status_at (AtLater line) = 8

-- the lines of some replies
abbrev pub text_of : List Reply → List ℕ
text_of replies = flat_map reply_line replies

-- the first commands of the bytes
abbrev pub FirstCommands : List ℕ → List Line → Type 0
FirstCommands bytes commands = (others : List Line) × ((script_of bytes).commands ≡ commands ++ others)

-- these are the commands of the whole script, which stops so
abbrev pub AllCommands : List ℕ → List Line → Stop → Type 0
AllCommands bytes commands stop = script_of bytes ≡ record { commands = commands; stop = stop }

-- the commands that a session carries out where it ends so, its pool having been opened; where it ends at an opening
-- again, its line is the next one
abbrev pub Reads : List ℕ → List Line → Ending → Type 0
Reads bytes commands Complete = AllCommands bytes commands AtEnd
Reads bytes commands (Outside line column) = AllCommands bytes commands (AtOutside line column)
Reads bytes commands (Limit line) = AllCommands bytes commands (AtLimit line)
Reads bytes commands (Later line) = AllCommands bytes commands (AtLater line)
Reads bytes commands OpenFault = FirstCommands bytes (commands ++ Node Reopen ∷ [])
Reads bytes commands NotCarriedOut = ⊥
Reads bytes commands Usage = ⊥
Reads bytes commands ending = FirstCommands bytes commands

-- the replies that are written: where memory runs out, that to the last command may be missing
abbrev pub Shows : List Reply → Ending → List Reply → Type 0
Shows replies NoMemory shown = (hidden : List Reply) × (replies ≡ shown ++ hidden) × (length hidden ≤ 1)
Shows replies ending shown = shown ≡ replies
