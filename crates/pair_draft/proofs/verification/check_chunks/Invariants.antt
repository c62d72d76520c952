use Rattle.std.proofs.Common.{◌≡◌, ◌≤◌, ◌+◌, ◌*◌, ◌-◌, ℕ, List, length, drop, Some}
use Rattle.meta_file.specs.Checksums.{chunk_count}
use Rattle.pair_draft.specs.Files.{file_bytes, file_faults, SameFile}
use Rattle.pair_draft.specs.Checking.{IsUnderWay, Agrees}
use Rattle.pair_draft.proofs.verification.check_chunks.Given as goal

-- the chunks so far agree
abbrev pub invariant-pieces : goal.invariant-pieces
invariant-pieces g l = record {
  way : IsUnderWay l.checker;
  kind : l.checker.summer.kind ≡ l.fn.header.kind;
  step : l.checker.summer.step ≡ l.fn.header.step;
  limit : l.checker.step ≡ l.fn.header.step;
  len : l.checker.len ≡ l.fn.len;
  block : SameFile g.R.Reader.number g.R.Reader.bytes l.fn.block l.block;
  meta : SameFile g.R.Reader.number g.R.Reader.bytes l.fn.meta l.meta;
  block_later : file_faults g.R.Reader.faults l.fn.block ≤ file_faults g.R.Reader.faults l.block;
  meta_later : file_faults g.R.Reader.faults l.fn.meta ≤ file_faults g.R.Reader.faults l.meta;
  agrees : (all sums : List ℕ) → file_bytes g.R.Reader.bytes l.fn.block ≡ Some all → file_bytes g.R.Reader.bytes l.fn.meta ≡ Some sums →
      length sums ≡ 7 + 4 * chunk_count l.fn.header.step l.fn.len → Agrees l.checker (drop 7 sums) all;
}

abbrev pub decreases-pieces : goal.decreases-pieces
decreases-pieces g l = l.fn.len - l.checker.at
