-- The endings of a run, with their statuses and last lines.
use Rattle.std.specs.Prelude.{ℕ, List, [], ◌∷◌, ◌++◌, codes, ⊤}
use Rattle.std.specs.Fmt.{decimal}
use Rattle.line_io.specs.declared.lines.ReadFault.{ReadFault}
use Rattle.line_io.specs.declared.lines.ReadFault.TheVariants.{Source, Limit as LineLimit, Memory}
use Rattle.run_end.specs.declared.ending.Ending.{Ending}
use Rattle.run_end.specs.declared.ending.Ending.TheVariants.{Complete, Usage, SourceFault, SinkFault, NoMemory, Outside, OpenFault, Limit, Later, NotCarriedOut}

-- the status of an ending
abbrev pub status_of : Ending → ℕ
status_of Complete = 0
status_of Usage = 1
status_of SourceFault = 2
status_of SinkFault = 3
status_of NoMemory = 4
status_of (Outside line column) = 5
status_of OpenFault = 6
status_of (Limit line) = 7
status_of (Later line) = 8
status_of NotCarriedOut = 8

-- its last line
abbrev pub last_line : Ending → List ℕ
last_line Complete = []
last_line Usage = codes "end usage\n"
last_line SourceFault = codes "end source\n"
last_line SinkFault = []
last_line NoMemory = codes "end memory\n"
last_line (Outside line column) = codes "end line " ++ decimal line ++ 32 ∷ decimal column ++ 10 ∷ []
last_line OpenFault = codes "end open\n"
last_line (Limit line) = codes "end limit " ++ decimal line ++ 10 ∷ []
last_line (Later line) = codes "end later " ++ decimal line ++ 10 ∷ []
last_line NotCarriedOut = codes "end later 0\n"

-- how the lines end of which one can't be read
abbrev pub ending_at : ReadFault → ℕ → Ending
ending_at Source line = SourceFault
ending_at LineLimit line = Limit line
ending_at Memory line = NoMemory

-- the endings of lines of which one can't be read
abbrev pub IsOfReading : Ending → Type 0
IsOfReading Complete = ⊥
IsOfReading Usage = ⊥
IsOfReading SourceFault = ⊤
IsOfReading SinkFault = ⊥
IsOfReading NoMemory = ⊤
IsOfReading (Outside line column) = ⊥
IsOfReading OpenFault = ⊥
IsOfReading (Limit line) = ⊤
IsOfReading (Later line) = ⊥
IsOfReading NotCarriedOut = ⊥
