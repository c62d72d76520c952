-- What a check knows of the bytes that it has read.
use Rattle.std.specs.Prelude.{ℕ, ◌≡◌, ◌≢◌, ◌<◌, ◌≤◌, ◌+◌, ◌*◌, ◌%◌, List, length, take, Option, Some, None}
use Rattle.meta_file.specs.declared.verdict.Verdict.{Verdict}
use Rattle.meta_file.specs.declared.verdict.Verdict.TheVariants.{Whole, BadChunk, Count, Short, Meta}
use Rattle.meta_file.specs.Headers.{IsHeaderFault}
use Rattle.meta_file.specs.Sums.{Progress, Summed, polynomial}
use Rattle.meta_file.specs.Verdicts.{stored_sum, chunk_sum, given_chunks, count_verdict, sums_verdict}
use Rattle.pair_draft.specs.declared.checker.Checker.{Checker}

-- the first `at` bytes of a block were taken in
pub record TakenIn (p : Progress) (at : ℕ) (block : List ℕ) : Type 0 where
  pub within : at ≤ length block
  pub given : List ℕ
  pub summed : Summed p given (take at block)

-- the checksums of the first `len` bytes of a block, from chunk `first` on, of the chunks that end within the first `at`
pub record AreSums (poly step len at first : ℕ) (block sums : List ℕ) : Type 0 where
  pub count : length sums + 4 * first ≡ 4 * given_chunks step len at
  pub each : (k : ℕ) → 4 * k + 4 ≤ length sums → stored_sum sums k ≡ chunk_sum poly step (take len block) (first + k)

-- a check goes on: what its summer has is what the bytes so far leave
pub record IsUnderWay (checker : Checker) : Type 0 where
  pub sums : 0 < checker.summer.kind
  pub stepped : 0 < checker.summer.step
  pub step : checker.summer.step ≡ checker.step
  pub filled : checker.summer.filled ≡ checker.at % checker.summer.step
  pub within : checker.at ≤ checker.len

-- the same check, later
pub record IsSameCheck (old new : Checker) : Type 0 where
  pub kind : new.summer.kind ≡ old.summer.kind
  pub summer_step : new.summer.step ≡ old.summer.step
  pub step : new.step ≡ old.step
  pub len : new.len ≡ old.len

-- the bytes so far were taken in, and each chunk that ends in them has the checksum that is stored
pub record Agrees (checker : Checker) (sums block : List ℕ) : Type 0 where
  pub taken : TakenIn checker.summer checker.at block
  pub agree : (chunk : ℕ) → chunk < given_chunks checker.summer.step checker.len checker.at →
      stored_sum sums chunk ≡ chunk_sum (polynomial checker.summer.kind) checker.summer.step (take checker.len block) chunk

-- what the check of a piece answers: the verdict, or that it goes on
abbrev pub PieceAnswer : (old new : Checker) (sums block : List ℕ) → Option Verdict → Type 0
PieceAnswer old new sums block None = Agrees new sums block
PieceAnswer old new sums block (Some verdict) = verdict ≡ sums_verdict (polynomial old.summer.kind) old.summer.step sums block old.len

-- what the count of a meta file's checksums answers: the verdict, or that as many bytes of them stand as must
abbrev pub CountAnswer : (want have : ℕ) → Option Verdict → Type 0
CountAnswer want have None = have ≡ want
CountAnswer want have (Some verdict) = (otherwise : Verdict) → verdict ≡ count_verdict want have otherwise

-- what holds of a verdict on `len` bytes, whatever is told of the files: its two numbers differ, or its one is out of range
abbrev pub IsOnLength : ℕ → Verdict → Type 0
IsOnLength len Whole = Unit {0}
IsOnLength len (BadChunk chunk stored computed) = stored ≢ computed
IsOnLength len (Count want have) = want ≢ have
IsOnLength len (Short want have) = (want ≡ len) × (have < want)
IsOnLength len (Meta fault) = IsHeaderFault fault
