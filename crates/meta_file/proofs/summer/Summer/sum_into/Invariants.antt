use Rattle.std.proofs.Common.{◌≡◌, ◌≤◌, ◌<◌, ◌+◌, ◌*◌, ◌/◌, ◌%◌, ◌-◌, length, take}
use Rattle.meta_file.specs.Sums.{Gives}
use Rattle.meta_file.proofs.summer.Summer.sum_into.Given as goal

-- the front of the piece has been taken in, its checksums stand in `out`, and there is room for the others
abbrev pub invariant-loop-at : goal.invariant-loop-at
invariant-loop-at l = record {
  within : l.at ≤ length l.piece;
  inside : l.place ≤ length l.out;
  kind : l.self.kind ≡ l.initial.self.kind;
  step : l.self.step ≡ l.initial.self.step;
  part : l.self.filled < l.self.step;
  gives : Gives l.initial.self l.self (take l.at l.piece) (take l.place l.out);
  count : l.place + 4 * ((l.self.filled + (length l.piece - l.at)) / l.self.step) ≡ 4 * ((l.initial.self.filled + length l.piece) / l.initial.self.step);
  filled : (l.self.filled + (length l.piece - l.at)) % l.self.step ≡ (l.initial.self.filled + length l.piece) % l.initial.self.step;
}

abbrev pub decreases-loop-at : goal.decreases-loop-at
decreases-loop-at l = length l.piece - l.at
