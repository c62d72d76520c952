use Rattle.std.proofs.Common.{◌≡◌, ◌≤◌, ◌-◌, ℕ, List, length, take, Some}
use Rattle.client_ops.proofs.reading.read_front.Given as goal

abbrev pub invariant-pieces : goal.invariant-pieces
invariant-pieces g l = record {
  within : l.done ≤ length l.out;
  number : g.R.Reader.number l.reader ≡ g.R.Reader.number l.fn.reader;
  told : g.R.Reader.bytes l.reader ≡ g.R.Reader.bytes l.fn.reader;
  front : (all : List ℕ) → g.R.Reader.bytes l.fn.reader ≡ Some all → take l.done l.out ≡ take l.done all;
  inside : (all : List ℕ) → g.R.Reader.bytes l.fn.reader ≡ Some all → l.done ≤ length all;
}

abbrev pub decreases-pieces : goal.decreases-pieces
decreases-pieces g l = length l.out - l.done
