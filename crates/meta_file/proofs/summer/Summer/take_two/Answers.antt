use Rattle.std.proofs.Common.{◌≡◌, ℕ, ◌+◌, ◌-◌, ◌*◌, ◌<◌, ◌≤◌, List, ◌++◌, length, take, drop, subst, sym, ap, refl, arith, ◌∙◌, length-take, length-drop}
use Rattle.std.specs.Prelude.{bit_xor}
use Rattle.std.proofs.Math.Seq.{take-add}
use Rattle.std.proofs.lemmas.List.{length-take-le}
use Rattle.byteorder.specs.Endian.{big_bytes}
use Rattle.meta_file.specs.Sums.{Progress, polynomial, Gives}
use Rattle.meta_file.proofs.SumLemmas.{Gives-closed, Gives-again, take_put}
use Rattle.meta_file.proofs.summer.Summer.take_two.Goals as goal

pub returns-clause-gives : goal.returns-clause-gives
returns-clause-gives c =
    let s = c.self.inside in
    let step = s.header.step in
    let piece = c.args.piece.now in
    let first : ℕ = bit_xor c.update_two-one.result.0 0xffff_ffff in
    let second : ℕ = bit_xor c.update_two-one.result.1 0xffff_ffff in
    let old : Progress = record { kind = s.header.kind; step = s.header.step; filled = s.filled; register = s.register } in
    let new : Progress = record { kind = s.header.kind; step = s.header.step; filled = 0; register = 0xffff_ffff } in
    let poly : s.tables.poly ≡ polynomial s.header.kind = c.self.invariant.2 in
    let kind = ap (λ (p : Progress). p.kind) c.self.view_is in
    let step_is = ap (λ (p : Progress). p.step) c.self.view_is in
    let filled_is = ap (λ (p : Progress). p.filled) c.self.view_is in
    let some = c.requires.sums in
    let enough = c.requires.two in
    let start = c.requires.start in
    let one : List ℕ = take s.header.step piece in
    let other : List ℕ = take (2 * s.header.step - s.header.step) (drop s.header.step piece) in
    let one_len : length (take s.header.step piece) ≡ s.header.step = length-take-le s.header.step piece (omega (arith, enough, step_is)) in
    let other_len : length (take (2 * s.header.step - s.header.step) (drop s.header.step piece)) ≡ s.header.step =
    omega (arith, enough, step_is, length-take (2 * s.header.step - s.header.step) (drop s.header.step piece), length-drop s.header.step piece)
    in
    let known : 0 < s.header.kind = omega (arith, kind, some) in
    let gives_one : Gives old new (take s.header.step piece) (big_bytes 4 first) =
    Gives-closed s.header.kind s.header.step s.filled s.register s.tables.poly c.update_two-one.result.0
    (take s.header.step piece) (big_bytes 4 first) known poly c.update_two-one.ensures.first (omega (arith, one_len, filled_is, start)) refl c.put_sum.ensures.value
    in
    let gives_other : Gives new new (take (2 * s.header.step - s.header.step) (drop s.header.step piece)) (big_bytes 4 second) =
    Gives-closed s.header.kind s.header.step 0 0xffff_ffff s.tables.poly c.update_two-one.result.1
    (take (2 * s.header.step - s.header.step) (drop s.header.step piece)) (big_bytes 4 second) known poly c.update_two-one.ensures.second (omega (arith, other_len)) refl c.put_sum-2.ensures.value
    in
    let both = Gives-again old new new (take s.header.step piece) (take (2 * s.header.step - s.header.step) (drop s.header.step piece)) (big_bytes 4 first) (big_bytes 4 second) gives_one gives_other in
    let half : 2 * s.header.step - s.header.step ≡ s.header.step = omega arith in
    let twice : s.header.step + s.header.step ≡ 2 * s.header.step = omega arith in
    let joined : take s.header.step piece ++ take (2 * s.header.step - s.header.step) (drop s.header.step piece) ≡ take (2 * s.header.step) piece =
    ap (λ (n : ℕ). take s.header.step piece ++ take n (drop s.header.step piece)) half
    ∙ sym (take-add s.header.step s.header.step piece) ∙ ap (λ (n : ℕ). take n piece) twice
    in
    let room = c.requires.room in
    let out_len = c.put_sum.auto.out in
    let rest_len = c.put_sum-2.auto.out in
    let inside : 4 ≤ length c.put_sum.new.out = omega (arith, room, out_len) in
    let within : 4 ≤ length c.put_sum-2.new.out = omega (arith, room, out_len, rest_len, length-take {A = ℕ}, length-drop {A = ℕ}) in
    let put = take_put 4 4 c.put_sum.new.out c.put_sum-2.new.out _ inside within in
    subst (λ (o : List ℕ). Gives c.args.self.now new (take (2 * s.header.step) piece) o) (sym put)
    (subst (λ (p : Progress). Gives p new (take (2 * s.header.step) piece) (take 4 c.put_sum.new.out ++ take 4 c.put_sum-2.new.out)) c.self.view_is
    (subst (λ (b : List ℕ). Gives old new b (take 4 c.put_sum.new.out ++ take 4 c.put_sum-2.new.out)) joined
    (subst (λ (o : List ℕ). Gives old new (take s.header.step piece ++ take (2 * s.header.step - s.header.step) (drop s.header.step piece)) (o ++ take 4 c.put_sum-2.new.out)) (sym c.put_sum.ensures.front)
    (subst (λ (o : List ℕ). Gives old new (take s.header.step piece ++ take (2 * s.header.step - s.header.step) (drop s.header.step piece)) (big_bytes 4 first ++ o)) (sym c.put_sum-2.ensures.front) both))))
