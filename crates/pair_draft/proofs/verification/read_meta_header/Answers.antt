use Rattle.std.proofs.Common.{◌≡◌, length, ◌∙◌, arith}
use Rattle.std.specs.Prelude.{min}
use Rattle.pair_draft.proofs.HeaderFront.{header_front}
use Rattle.pair_draft.proofs.verification.read_meta_header.Goals as goal

pub returns-clause-header : goal.returns-clause-header
returns-clause-header g c = λ sums is.
    let count = c.in_ok-have.ensures.count sums is in
    let read = c.in_ok-have.ensures.read sums is in
    let room = c.read_full.auto.out in
    let n : c.in_ok-have.have ≡ min 7 (length sums) = omega (arith, count, room) in
    c.read_header.ensures.header ∙ header_front c.read_full.new.out sums c.in_ok-have.have n read
