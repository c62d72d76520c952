use Rattle.std.proofs.Common.{◌≡◌, ℕ, length, take, ◌∙◌, arith, length-take, length-append}
use Rattle.client_ops.proofs.Pieces.{take_two}
use Rattle.client_ops.proofs.reading.read_front.Goals as goal

pub pieces-preserved : goal.pieces-preserved
pieces-preserved g c = record {
  within =
      let full : length (take c.pieces.done c.pieces.out) ≡ c.pieces.done = omega (arith, length-take c.pieces.done c.pieces.out, c.pieces.invariant.within) in
      omega (arith, full, c.in_ok-count.ensures.room, length-append {A = ℕ});
  number = c.read.ensures.number ∙ c.pieces.invariant.number;
  told = c.read.ensures.bytes ∙ c.pieces.invariant.told;
  front = λ all is.
      let at_now = c.pieces.invariant.told ∙ is in
      let full : length (take c.pieces.done c.pieces.out) ≡ c.pieces.done = omega (arith, length-take c.pieces.done c.pieces.out, c.pieces.invariant.within) in
      take_two c.pieces.done c.in_ok-count.count c.pieces.out c.read.new.out _ all full c.in_ok-count.ensures.room (c.pieces.invariant.front all is)
      (c.in_ok-count.ensures.read.bytes all at_now);
  inside = λ all is.
      let at_now = c.pieces.invariant.told ∙ is in
      let r = c.in_ok-count.ensures.read.within all at_now in omega (arith, r);
}
