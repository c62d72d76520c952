use Rattle.std.proofs.Common.{◌≡◌, ℕ, ◌+◌, ◌-◌, ◌/◌, ◌%◌, ◌<◌, ◌≤◌, length, take, ap, ◌∙◌, arith}
use Rattle.std.proofs.lemmas.List.{length-take-le}
use Rattle.std.proofs.lemmas.Grind.{common_steps}
use Rattle.meta_file.specs.Sums.{Progress}
use Rattle.meta_file.proofs.SumLemmas.{batch_rest}
use Rattle.meta_file.proofs.summer.Summer.take_some.Goals as goal

pub unwrap-requires : goal.unwrap-requires
unwrap-requires c =
    let taken = c.min-taken.result in
    let now = c.args.self.now in
    let piece = c.args.piece.now in
    let filled_below : c.self.inside.filled < c.self.inside.header.step = c.self.invariant.0 in
    let step_is = ap (λ (p : Progress). p.step) c.self.view_is in
    let stepped : 0 < now.step = omega (arith, filled_below, step_is) in
    let few : taken ≤ length piece = omega arith in
    let both = batch_rest now.filled taken (length piece) now.step stepped few in
    let room = c.requires.room in
    let count = c.sum_into-count.ensures.count in
    let small : c.sum_into-count.result ≤ length c.sum_into-count.new.out = grind (arith, common_steps) in
    let len = length-take-le c.sum_into-count.result c.sum_into-count.new.out small in
    let piece_len = length-take-le taken piece few in
    let same : (now.filled + length (take taken piece)) / now.step ≡ (now.filled + taken) / now.step = ap (λ (n : ℕ). (now.filled + n) / now.step) piece_len in
    c.extend_from_slice.ensures.succeeds (omega (arith, len, count, same, both, room))

pub returns-clause-room : goal.returns-clause-room
returns-clause-room c =
    let taken = c.min-taken.result in
    let now = c.args.self.now in
    let piece = c.args.piece.now in
    let filled_below : c.self.inside.filled < c.self.inside.header.step = c.self.invariant.0 in
    let step_is = ap (λ (p : Progress). p.step) c.self.view_is in
    let stepped : 0 < now.step = omega (arith, filled_below, step_is) in
    let few : taken ≤ length piece = omega arith in
    let both = batch_rest now.filled taken (length piece) now.step stepped few in
    let count = c.sum_into-count.ensures.count in
    let filled = c.sum_into-count.ensures.filled in
    let small : c.sum_into-count.result ≤ length c.sum_into-count.new.out = grind (arith, common_steps) in
    let len = length-take-le c.sum_into-count.result c.sum_into-count.new.out small in
    let piece_len = length-take-le taken piece few in
    let same : (now.filled + length (take taken piece)) / now.step ≡ (now.filled + taken) / now.step = ap (λ (n : ℕ). (now.filled + n) / now.step) piece_len in
    let filled_is : c.sum_into-count.new.self.filled ≡ (now.filled + taken) % now.step =
    filled ∙ ap (λ (n : ℕ). (now.filled + n) % now.step) piece_len
    in
    let left : (c.sum_into-count.new.self.filled + (length piece - taken)) / now.step ≡ ((now.filled + taken) % now.step + (length piece - taken)) / now.step =
    ap (λ (n : ℕ). (n + (length piece - taken)) / now.step) filled_is
    in
    let grown = rw c.unwrap.ensures at c.extend_from_slice.ensures.len in
    omega (arith, grown, len, count, same, both, left)
