use Rattle.std.proofs.Common.{◌≡◌, ◌≤◌, ◌-◌, ℕ, List, length, take, drop, Some}
use Rattle.pair_draft.specs.Files.{file_bytes, file_faults, SameFile}
use Rattle.pair_draft.proofs.files.read_full.Given as goal

-- the front of the buffer has the bytes from the offset on
abbrev pub invariant-pieces : goal.invariant-pieces
invariant-pieces g l = record {
  within : l.done ≤ length l.out;
  same : SameFile g.R.Reader.number g.R.Reader.bytes l.fn.file l.file;
  later : file_faults g.R.Reader.faults l.fn.file ≤ file_faults g.R.Reader.faults l.file;
  front : (all : List ℕ) → file_bytes g.R.Reader.bytes l.fn.file ≡ Some all → take l.done l.out ≡ take l.done (drop l.fn.at all);
  inside : (all : List ℕ) → file_bytes g.R.Reader.bytes l.fn.file ≡ Some all → l.done ≤ length all - l.fn.at;
}

abbrev pub decreases-pieces : goal.decreases-pieces
decreases-pieces g l = length l.out - l.done
