-- What a line asks for, where it is carried out.
use Rattle.std.specs.Prelude.{ℕ, Bool, true, false, Option, Some, None, is_some}
use Rattle.map_model.specs.Steps.{Command, start_write, push, finish, drop_write, write, read, delete}
use Rattle.script_lang.specs.declared.line.Line.{Line}
use Rattle.script_lang.specs.declared.line.Line.TheVariants.{Blank, Node, Client}
use Rattle.script_lang.specs.declared.line.NodeLine.TheVariants.{Reopen, Report}
use Rattle.script_lang.specs.declared.line.ClientLine.{ClientLine}
use Rattle.script_lang.specs.declared.line.ClientLine.TheVariants.{Open, Grow, Push, Finish, Drop, Write, Append, Read, Delete}

-- the block that a client's line is about
abbrev pub block_of : ClientLine → ℕ
block_of (Open id stamp need) = id
block_of (Grow id stamp more) = id
block_of (Push id piece) = id
block_of (Finish id) = id
block_of (Drop id) = id
block_of (Write id stamp bytes) = id
block_of (Append id stamp bytes) = id
block_of (Read id) = id
block_of (Delete id) = id

-- the command that it gives to it; none where it isn't carried out yet
abbrev pub command_of : ClientLine → Option Command
command_of (Open id stamp need) = Some (start_write stamp need)
command_of (Grow id stamp more) = None
command_of (Push id piece) = Some (push piece)
command_of (Finish id) = Some finish
command_of (Drop id) = Some drop_write
command_of (Write id stamp bytes) = Some (write stamp bytes)
command_of (Append id stamp bytes) = None
command_of (Read id) = Some read
command_of (Delete id) = Some delete

-- the lines that are carried out
abbrev pub is_carried : Line → Bool
is_carried (Client line) = is_some (command_of line)
is_carried (Node Reopen) = true
is_carried (Node Report) = true
is_carried line = false

-- an empty line or a comment
abbrev pub is_blank : Line → Bool
is_blank Blank = true
is_blank line = false
