use Rattle.std.proofs.Common.{◌≡◌, ◌+◌, ◌-◌, ◌*◌, ◌%◌, ◌≤◌, ℕ, length, ap, sym, ◌∙◌, arith}
use Rattle.std.proofs.Math.Nat.{add-mod_left}
use Rattle.std.proofs.lemmas.Grind.{common_steps}
use Rattle.meta_file.proofs.SumLemmas.{next_filled}
use Rattle.meta_file.proofs.summer.Summer.take_next.Goals as goal

pub returns-then-piece-self-clause-filled : goal.returns-then-piece-self-clause-filled
returns-then-piece-self-clause-filled c =
    let zero : c.args.self.now.filled ≡ 0 = grind (arith, common_steps) in
    let enough : 2 * c.args.self.now.step ≤ length c.args.piece.now = grind (arith, common_steps) in
    let bytes = c.take_two.ensures.bytes in
    let filled = c.take_two.ensures.filled in
    let here : c.take_two.new.self.filled + (length c.args.piece.now - c.take_two.result.bytes) ≡ length c.args.piece.now - 2 * c.args.self.now.step =
    omega (arith, bytes, filled)
    in
    ap (λ (n : ℕ). n % c.args.self.now.step) here
    ∙ sym (next_filled c.args.self.now.filled (length c.args.piece.now) c.args.self.now.step (c.args.self.now.step + (length c.args.piece.now - 2 * c.args.self.now.step)) (omega (arith, zero, enough))
    ∙ add-mod_left c.args.self.now.step (length c.args.piece.now - 2 * c.args.self.now.step))
