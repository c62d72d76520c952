-- What a run writes, and how it is closed.
use Rattle.std.specs.Prelude.{ℕ, ◌≡◌, ◌≢◌, ◌⊎◌, ◌==◌, MatchBool, List, [], ◌++◌, Option}
use Rattle.std.specs.Io.KnownBytes.{Appends}
use Rattle.line_io.specs.Written.{AppendsFront}
use Rattle.run_end.specs.declared.ending.Ending.{Ending}
use Rattle.run_end.specs.declared.ending.Ending.TheVariants.{Complete, SinkFault, NoMemory}
use Rattle.run_end.specs.Ending.{status_of, last_line}

-- the sink takes the whole text, or a front of it where the status says that the sink failed
abbrev pub Writes : ℕ → Option (List ℕ) → Option (List ℕ) → List ℕ → Type 0
Writes status taken taken' text = MatchBool (status == 3) (AppendsFront taken taken' text) (Appends taken taken' text)

-- A run that ends so has this status, and writes this text and its last line; where the sink fails the status is 3, and a front is written.
pub record Ends (ending : Ending) (taken taken' : Option (List ℕ)) (text : List ℕ) (status : ℕ) : Type 0 where
  pub status_is : (status ≡ status_of ending) ⊎ (status ≡ 3)
  pub written : Writes status taken taken' (text ++ last_line ending)

-- A run that wrote this text ends so, or with want of memory for its last line, if it has one.
pub record Closed (ending : Ending) (taken taken' : Option (List ℕ)) (text : List ℕ) (status : ℕ) : Type 0 where
  pub closing : Ending
  pub closing_is : (closing ≡ ending) ⊎ ((closing ≡ NoMemory) × (ending ≢ SinkFault) × (ending ≢ Complete))
  pub ends : Ends closing taken taken' text status

-- a run that wrote nothing before
abbrev pub Declines : Ending → Option (List ℕ) → Option (List ℕ) → ℕ → Type 0
Declines ending taken taken' status = Closed ending taken taken' [] status
