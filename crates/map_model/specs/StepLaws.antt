-- What follows from the table of steps, in the words of a client.
use Rattle.std.specs.Prelude.{ℕ, ◌+◌, ◌≤◌, ◌≡◌, ◌≢◌, ◌⊎◌, IsTrue, List, [], ◌∷◌, ◌++◌, length, Option, Some, All}
use Rattle.std.specs.List.{concat}
use Rattle.map_model.specs.Cells.{Replica, Cell, growing, final, Cells}
use Rattle.map_model.specs.Steps.{Command, start_write, start_append, push, finish, read, Reply, done, content, failed, is_refusal, Room, refusal, read_content, cell_after, given_up, Step, Answered, Run, Reopened}
use Rattle.map_model.specs.Allows.{Allows}

-- the first refusal that applies is the answer
abbrev pub FirstRefusalIsAnswered : Type 0
FirstRefusalIsAnswered = (room : Room) (cell : Cell) (command : Command) (refused reply : Reply) (after : Cell) →
    refusal room cell command ≡ Some refused → Step room cell command reply after → reply ≡ refused

-- an answer that refuses comes only where that refusal applies, and changes nothing
abbrev pub RefusedChangesNothing : Type 0
RefusedChangesNothing = (room : Room) (cell : Cell) (command : Command) (reply : Reply) (after : Cell) →
    IsTrue (is_refusal reply) → Step room cell command reply after → (refusal room cell command ≡ Some reply) × (after ≡ cell)

-- a block that no command of a run names keeps its cell
abbrev pub OnlyOwnCellsChange : Type 0
OnlyOwnCellsChange = (cells after : Cells) (run : List Answered) (id : ℕ) →
    All (λ answered. id ≢ answered.id) run → Run cells run after → after id ≡ cells id

-- a read leaves the cell, whatever it answers
abbrev pub ReadsChangeNothing : Type 0
ReadsChangeNothing = (room : Room) (cell : Cell) (reply : Reply) (after : Cell) → Step room cell read reply after → after ≡ cell

-- and what it gives is the content of the cell
abbrev pub ReadsGiveTheContent : Type 0
ReadsGiveTheContent = (room : Room) (cell : Cell) (replica : Replica) (after : Cell) →
    Step room cell read (content replica) after → read_content cell ≡ Some replica

-- A push fails and gives the writer up, or keeps its stamp, its base and its reserved length, which is what it has
-- written and what is left.
abbrev pub PushesKeepTheWriter : Type 0
PushesKeepTheWriter = (room : Room) (stamp : ℕ) (base : Option Replica) (bytes : List ℕ) (left : ℕ) (piece : List ℕ) (reply : Reply) (after : Cell) →
    Step room (growing stamp base bytes left) (push piece) reply after →
    ((reply ≡ failed) × (after ≡ given_up base))
    ⊎ ((grown : List ℕ) × (rest : ℕ) × (after ≡ growing stamp base grown rest) × (length grown + rest ≡ length bytes + left))

-- pieces that were pushed one after the other, each with the answer `done`
abbrev pub PushedAll : Cell → List (List ℕ) → Cell → Type 0
PushedAll cell [] after = after ≡ cell
PushedAll cell (piece ∷ pieces) after = (room : Room) × (between : Cell) × Step room cell (push piece) done between × PushedAll between pieces after

-- what is pushed and finished is read back: no byte more, none less, and none in another place
abbrev pub WritesAreReadBack : Type 0
WritesAreReadBack = (first last later : Room) (before opened written finished after : Cell) (stamp need : ℕ) (pieces : List (List ℕ)) (replica : Replica) →
    Step first before (start_write stamp need) done opened → PushedAll opened pieces written → Step last written finish done finished →
    Step later finished read (content replica) after →
    (replica ≡ record { stamp = stamp; bytes = concat pieces }) × (length (concat pieces) ≤ need)

-- and so is what is appended, behind what was there
abbrev pub AppendsAreReadBack : Type 0
AppendsAreReadBack = (first last later : Room) (opened written finished after : Cell) (was : Replica) (stamp more : ℕ) (pieces : List (List ℕ)) (replica : Replica) →
    Step first (final was) (start_append stamp more) done opened → PushedAll opened pieces written → Step last written finish done finished →
    Step later finished read (content replica) after →
    (replica ≡ record { stamp = stamp; bytes = was.bytes ++ concat pieces }) × (length (concat pieces) ≤ more)

-- Whatever a command answers: what may be read afterwards might have been read before it, or is what the command
-- was to leave.
abbrev pub StepsAllowNothingElse : Type 0
StepsAllowNothingElse = (room : Room) (cell : Cell) (command : Command) (reply : Reply) (after : Cell) (replica : Option Replica) →
    Step room cell command reply after → Allows after replica →
    Allows cell replica ⊎ ((next : Cell) × (cell_after cell command ≡ Some next) × Allows next replica)

-- a reopening leaves no cell that allows more than the one before it
abbrev pub ReopeningsAllowNothingElse : Type 0
ReopeningsAllowNothingElse = (cell after : Cell) (replica : Option Replica) → Reopened cell after → Allows after replica → Allows cell replica
