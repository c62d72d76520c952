use Rattle.std.proofs.Common.{◌≡◌, ◌<◌, ℕ}
use Rattle.meta_file.specs.Verdicts.{stored_sum}
use Rattle.meta_file.proofs.difference.first_difference.Given as goal

-- the checksums so far are the same
abbrev pub invariant-loop-place : goal.invariant-loop-place
invariant-loop-place l = (k : ℕ) → k < l.place → stored_sum l.stored k ≡ stored_sum l.computed k
