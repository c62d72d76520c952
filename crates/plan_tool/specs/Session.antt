-- How the reading of an input ends, and what a run writes.
use Rattle.std.specs.Prelude.{ℕ, ◌≡◌, List, [], Option, IfSome, ⊤}
use Rattle.run_end.specs.declared.ending.Ending.{Ending}
use Rattle.run_end.specs.declared.ending.Ending.TheVariants.{Complete, SourceFault, SinkFault, NoMemory, Outside, Limit}
use Rattle.run_end.specs.Ending.{status_of}
use Rattle.run_end.specs.Closing.{Writes, Ends}
use Rattle.plan_tool.specs.declared.options.Options.{Options}
use Rattle.plan_tool.specs.declared.row.Row.{Row}
use Rattle.plan_tool.specs.Rows.{Input, Stop, AtEnd, AtOutside, AtLimit, input_of, input_by}
use Rattle.plan_tool.specs.Plans.{IsOutput}

-- the status of the place where an input stops
abbrev pub status_at : Stop → ℕ
status_at AtEnd = 0
status_at (AtOutside line column) = 5
status_at (AtLimit line) = 7

-- an input that stops so isn't read to its end
abbrev pub StopsWith : Stop → Ending → Type 0
StopsWith stop SourceFault = ⊤
StopsWith stop NoMemory = ⊤
StopsWith stop (Outside line column) = stop ≡ AtOutside line column
StopsWith stop (Limit line) = stop ≡ AtLimit line
StopsWith stop ending = ⊥

-- the endings of an input that isn't read to its end
abbrev pub IsOfRows : Ending → Type 0
IsOfRows SourceFault = ⊤
IsOfRows NoMemory = ⊤
IsOfRows (Outside line column) = ⊤
IsOfRows (Limit line) = ⊤
IsOfRows ending = ⊥

-- a line adds what it says to the rows
abbrev pub AddsLine : List Row → List ℕ → List Row → Type 0
AddsLine rows text rows' = (number : ℕ) (rest : List Row → Input) → input_by number rows text rest ≡ rest rows'

-- or it isn't of the form
abbrev pub LineStops : List Row → ℕ → List ℕ → Ending → Type 0
LineStops rows number text NoMemory = ⊤
LineStops rows number text (Outside line column) = (rest : List Row → Input) → input_by number rows text rest ≡ record { rows = rows; stop = AtOutside line column }
LineStops rows number text ending = ⊥

-- the plan over all rows of the input and its id
abbrev pub OutputsPlan : Options → Option (List ℕ) → List ℕ → Type 0
OutputsPlan options input output = (rows : List Row) × IfSome input (λ bytes. input_of bytes ≡ record { rows = rows; stop = AtEnd }) × IsOutput options rows output

-- What a run writes before its last line: a plan over all rows of the input and its id, or nothing.
abbrev pub Outputs : Options → Option (List ℕ) → Ending → List ℕ → Type 0
Outputs options input Complete output = OutputsPlan options input output
Outputs options input SinkFault output = OutputsPlan options input output
Outputs options input SourceFault output = output ≡ []
Outputs options input NoMemory output = output ≡ []
Outputs options input (Outside line column) output = (output ≡ []) × IfSome input (λ bytes. (input_of bytes).stop ≡ AtOutside line column)
Outputs options input (Limit line) output = (output ≡ []) × IfSome input (λ bytes. (input_of bytes).stop ≡ AtLimit line)
Outputs options input ending output = ⊥

-- the run ends so, up to its last line
pub record Planned (options : Options) (input taken taken' : Option (List ℕ)) (ending : Ending) : Type 0 where
  pub output : List ℕ
  pub outputs : Outputs options input ending output
  pub written : Writes (status_of ending) taken taken' output

-- A run writes its output and the last line of its ending, and has the ending's status.
pub record Runs (options : Options) (input taken taken' : Option (List ℕ)) (status : ℕ) : Type 0 where
  pub ending : Ending
  pub output : List ℕ
  pub outputs : Outputs options input ending output
  pub ends : Ends ending taken taken' output status
