use Rattle.std.proofs.Common.{◌≡◌, ℕ, ◌<◌, List, [], take, subst, sym, refl, arith}
use Rattle.std.specs.Prelude.{bit_xor}
use Rattle.byteorder.specs.Endian.{big_bytes}
use Rattle.meta_file.specs.Sums.{Progress, Ends}
use Rattle.meta_file.proofs.SumLemmas.{Ends-last, Ends-whole}
use Rattle.meta_file.proofs.summer.Summer.rest_into.Goals as goal
use Rattle.meta_file.proofs.summer.Summer.rest_into.Goals.{then-self-eq0-via-then-self-eq0, then-self-eq0-via-else-self-eq0+then-self-eq0-2}

pub returns-then-self-eq0-clause-ends : goal.returns-then-self-eq0-clause-ends
returns-then-self-eq0-clause-ends c =
    let s = c.self.inside in
    let room : s.filled < s.header.step = c.self.invariant.0 in
    let none : 0 < s.header.kind → s.filled ≡ 0 =
    λ some. elim c.then-self-eq0.branch [
      | then-self-eq0-via-then-self-eq0 w ↦ let zero = w.if-self-eq0.true in absurd (omega (arith, zero, some))
      | then-self-eq0-via-else-self-eq0+then-self-eq0-2 w ↦ w.if-self-eq0-2.true
    ]
    in
    subst (λ (p : Progress). Ends p []) c.self.view_is (Ends-whole s.header.kind s.header.step s.filled s.register room none)

pub returns-clause-ends : goal.returns-clause-ends
returns-clause-ends c =
    let s = c.self.inside in
    let sum : ℕ = bit_xor s.register 0xffff_ffff in
    let old : Progress = record { kind = s.header.kind; step = s.header.step; filled = s.filled; register = s.register } in
    let room : s.filled < s.header.step = c.self.invariant.0 in
    let known = c.if-self-eq0.false in
    let some = c.if-self-eq0-2.false in
    subst (λ (p : Progress). Ends p (take 4 c.put_sum.new.out)) c.self.view_is
    (subst (λ (o : List ℕ). Ends old o) (sym c.put_sum.ensures.front)
    (Ends-last s.header.kind s.header.step s.filled s.register (big_bytes 4 sum) (omega (arith, known)) (omega (arith, some)) room refl c.put_sum.ensures.value))
