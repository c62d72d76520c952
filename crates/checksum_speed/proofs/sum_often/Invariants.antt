use Rattle.std.proofs.Common.{◌≡◌, length}
use Rattle.checksum_speed.proofs.sum_often.Given as goal

-- at each turn the summer is at the beginning of a chunk, and there is room for the checksums of the buffer
abbrev pub invariant-loop : goal.invariant-loop
invariant-loop l = record {
  kind : l.summer.kind ≡ 1;
  step : l.summer.step ≡ 512;
  filled : l.summer.filled ≡ 0;
  sums : length l.sums ≡ 512;
}
