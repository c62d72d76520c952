-- What sources and sinks in memory hold, and what their calls answer.
use Rattle.std.specs.Prelude.{◌≡◌, ℕ, zero, suc, List, Option, None, Some, Result, Ok, IsErr}

-- the bytes that are left, how many a read gives at most, how many calls are left before each one fails, if any ever does, and how often one failed
pub record SourceState : Type 0 where
  pub bytes : List ℕ
  pub most : ℕ
  pub calls : Option ℕ
  pub faults : ℕ

-- the bytes that were taken, how many a write takes at most, how many calls are left before each one fails, if any ever does, and how often one failed
pub record SinkState : Type 0 where
  pub bytes : List ℕ
  pub most : ℕ
  pub calls : Option ℕ
  pub faults : ℕ

-- the calls that are left after one more
abbrev pub calls_after : Option ℕ → Option ℕ
calls_after None = None
calls_after (Some zero) = Some zero
calls_after (Some (suc n)) = Some n

-- no call is left
abbrev pub NoCallLeft : Option ℕ → Type 0
NoCallLeft calls = calls ≡ Some 0

-- the call answers this number, and fails where no call is left
abbrev pub Answers : {E : Type 0} → Option ℕ → Result ℕ E → ℕ → Type 0
Answers None result n = result ≡ Ok n
Answers (Some zero) result n = IsErr result
Answers (Some (suc calls)) result n = result ≡ Ok n
