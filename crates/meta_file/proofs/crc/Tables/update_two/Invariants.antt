use Rattle.std.proofs.Common.{◌≡◌, ◌≤◌, ◌-◌, take, length}
use Rattle.meta_file.specs.Tables.{after}
use Rattle.meta_file.proofs.crc.Tables.update_two.Given as goal

-- both fronts have been taken in
abbrev pub invariant-loop-at : goal.invariant-loop-at
invariant-loop-at l = record {
  within : l.at ≤ length l.one;
  first : l.first ≡ after l.self.poly l.fn.first (take l.at l.one);
  second : l.second ≡ after l.self.poly l.fn.second (take l.at l.other);
}

abbrev pub decreases-loop-at : goal.decreases-loop-at
decreases-loop-at l = length l.one - l.at
