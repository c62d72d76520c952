use Rattle.std.proofs.Common.{◌≡◌, ℕ, ◌+◌, ◌-◌, ◌*◌, ◌/◌, ◌%◌, ◌<◌, ◌≤◌, List, [], length, take, subst, sym, ap, refl, arith, zero-add, ◌∙◌}
use Rattle.std.specs.Prelude.{bit_xor}
use Rattle.std.proofs.lemmas.List.{length-take-le}
use Rattle.byteorder.specs.Endian.{big_bytes}
use Rattle.meta_file.specs.Sums.{Progress, polynomial, Gives}
use Rattle.meta_file.proofs.SumLemmas.{Gives-more, Gives-closed, next_chunk, next_filled}
use Rattle.meta_file.proofs.summer.Summer.take_chunk.Goals as goal

pub returns-then-bytes-left-clause-gives : goal.returns-then-bytes-left-clause-gives
returns-then-bytes-left-clause-gives c =
    let s = c.self.inside in
    let n = c.min-bytes.result in
    let old : Progress = record { kind = s.header.kind; step = s.header.step; filled = s.filled; register = s.register } in
    let poly : s.tables.poly ≡ polynomial s.header.kind = c.self.invariant.2 in
    let kind = ap (λ (p : Progress). p.kind) c.self.view_is in
    let some = c.requires.sums in
    let few : n ≤ length c.args.piece.now = omega arith in
    let len : length (take n c.args.piece.now) ≡ n = length-take-le n c.args.piece.now few in
    let gives : Gives old (record { kind = s.header.kind; step = s.header.step; filled = s.filled + length (take n c.args.piece.now); register = c.update-register.result }) (take n c.args.piece.now) [] =
    Gives-more s.header.kind s.header.step s.filled s.register s.tables.poly c.update-register.result
    (take n c.args.piece.now) (omega (arith, kind, some)) poly c.update-register.ensures
    in
    subst (λ (p : Progress). Gives p (record { kind = s.header.kind; step = s.header.step; filled = s.filled + n; register = c.update-register.result }) (take n c.args.piece.now) []) c.self.view_is
    (subst (λ (k : ℕ). Gives old (record { kind = s.header.kind; step = s.header.step; filled = s.filled + k; register = c.update-register.result }) (take n c.args.piece.now) []) len gives)

pub returns-clause-gives : goal.returns-clause-gives
returns-clause-gives c =
    let s = c.self.inside in
    let n = c.min-bytes.result in
    let sum : ℕ = bit_xor c.update-register.result 0xffff_ffff in
    let old : Progress = record { kind = s.header.kind; step = s.header.step; filled = s.filled; register = s.register } in
    let new : Progress = record { kind = s.header.kind; step = s.header.step; filled = 0; register = 0xffff_ffff } in
    let room : s.filled < s.header.step = c.self.invariant.0 in
    let poly : s.tables.poly ≡ polynomial s.header.kind = c.self.invariant.2 in
    let kind = ap (λ (p : Progress). p.kind) c.self.view_is in
    let some = c.requires.sums in
    let few : n ≤ length c.args.piece.now = omega arith in
    let len : length (take n c.args.piece.now) ≡ n = length-take-le n c.args.piece.now few in
    let full = c.if-bytes-left.false in
    let gives : Gives old new (take n c.args.piece.now) (big_bytes 4 sum) =
    Gives-closed s.header.kind s.header.step s.filled s.register s.tables.poly c.update-register.result
    (take n c.args.piece.now) (big_bytes 4 sum) (omega (arith, kind, some)) poly c.update-register.ensures
    (omega (arith, len, full, room)) refl c.put_sum.ensures.value
    in
    subst (λ (p : Progress). Gives p new (take n c.args.piece.now) (take 4 c.put_sum.new.out)) c.self.view_is
    (subst (λ (o : List ℕ). Gives old new (take n c.args.piece.now) o) (sym c.put_sum.ensures.front) gives)

pub returns-clause-count : goal.returns-clause-count
returns-clause-count c =
    let s = c.self.inside in
    let n = c.min-bytes.result in
    let room : s.filled < s.header.step = c.self.invariant.0 in
    let full = c.if-bytes-left.false in
    let rest = length c.args.piece.now - n in
    let next = next_chunk s.filled (length c.args.piece.now) s.header.step rest (omega arith) (omega (arith, full, room)) in
    let start : (0 + rest) / s.header.step ≡ rest / s.header.step = ap (λ (n : ℕ). n / s.header.step) (zero-add rest) in
    let sums : 4 + 4 * ((0 + rest) / s.header.step) ≡ 4 * ((s.filled + length c.args.piece.now) / s.header.step) =
    omega (arith, next, start)
    in
    subst (λ (p : Progress). 4 + 4 * ((0 + rest) / p.step) ≡ 4 * ((p.filled + length c.args.piece.now) / p.step)) c.self.view_is sums

pub returns-clause-filled : goal.returns-clause-filled
returns-clause-filled c =
    let s = c.self.inside in
    let n = c.min-bytes.result in
    let room : s.filled < s.header.step = c.self.invariant.0 in
    let full = c.if-bytes-left.false in
    let rest = length c.args.piece.now - n in
    let next = next_filled s.filled (length c.args.piece.now) s.header.step rest (omega (arith, full, room)) in
    let start : (0 + rest) % s.header.step ≡ rest % s.header.step = ap (λ (n : ℕ). n % s.header.step) (zero-add rest) in
    subst (λ (p : Progress). (0 + rest) % p.step ≡ (p.filled + length c.args.piece.now) % p.step) c.self.view_is (start ∙ sym next)
