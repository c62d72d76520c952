use Rattle.std.proofs.Common.{◌≡◌, ◌≤◌, ◌-◌, ℕ, List, length, Some}
use Rattle.pair_draft.specs.Files.{file_bytes, file_faults, SameFile}
use Rattle.pair_draft.proofs.files.count_from.Given as goal

-- so many bytes stand there
abbrev pub invariant-pieces : goal.invariant-pieces
invariant-pieces g l = record {
  within : l.count ≤ l.fn.most;
  same : SameFile g.R.Reader.number g.R.Reader.bytes l.fn.file l.file;
  later : file_faults g.R.Reader.faults l.fn.file ≤ file_faults g.R.Reader.faults l.file;
  inside : (all : List ℕ) → file_bytes g.R.Reader.bytes l.fn.file ≡ Some all → l.count ≤ length all - l.fn.at;
}

abbrev pub decreases-pieces : goal.decreases-pieces
decreases-pieces g l = l.fn.most - l.count
