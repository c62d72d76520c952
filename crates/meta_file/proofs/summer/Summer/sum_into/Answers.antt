use Rattle.std.proofs.Common.{◌≡◌, ℕ, ◌+◌, ◌-◌, ◌*◌, ◌/◌, ◌%◌, ◌≤◌, List, ◌++◌, length, take, drop, subst, sym, ap, ap₂, ◌∙◌, arith, length-take, length-drop, length-append}
use Rattle.std.proofs.Math.Seq.{take-add}
use Rattle.std.proofs.Math.Nat.{div-eq_of_lt}
use Rattle.std.proofs.lemmas.List.{take_all}
use Rattle.meta_file.specs.Sums.{Progress, Gives}
use Rattle.meta_file.proofs.SumLemmas.{Gives-again, take_put}
use Rattle.meta_file.proofs.summer.Summer.sum_into.Goals as goal

pub loop-at-preserved : goal.loop-at-preserved
loop-at-preserved c =
    let piece = c.args.piece.now in
    let out = c.loop-at.out in
    let at = c.loop-at.at in
    let place = c.loop-at.place in
    let taken = c.take_next-taken.result in
    let start = c.args.self.now in
    let now = c.loop-at.self in
    let next = c.take_next-taken.new.self in
    let new = c.take_next-taken.new.out in
    let e = c.take_next-taken.ensures in
    let i = c.loop-at.invariant in
    let within : at ≤ length piece = i.within in
    let rest = take (length piece - at) (drop at piece) in
    let len : length rest ≡ length piece - at = simp (length-take, length-drop) (omega (arith, within)) in
    let all : rest ≡ drop at piece = take_all (length piece - at) (drop at piece) (omega (arith, length-drop at piece)) in
    let joined : take at piece ++ take taken.bytes rest ≡ take (at + taken.bytes) piece =
    ap (λ (r : List ℕ). take at piece ++ take taken.bytes r) all ∙ sym (take-add at taken.bytes piece)
    in
    let put = take_put place taken.sums out new (drop (length out - place) (drop place out)) i.inside e.fits in
    let left : length rest - taken.bytes ≡ length piece - (at + taken.bytes) = omega (arith, len) in
    let next_count : (next.filled + (length rest - taken.bytes)) / now.step ≡ (next.filled + (length piece - (at + taken.bytes))) / next.step =
    ap₂ (λ (x y : ℕ). (next.filled + x) / y) left (sym e.step)
    in
    let now_count : (now.filled + length rest) / now.step ≡ (now.filled + (length piece - at)) / now.step =
    ap (λ (x : ℕ). (now.filled + x) / now.step) len
    in
    let first_count = e.count in
    let last_count = i.count in
    let next_filled : (next.filled + (length piece - (at + taken.bytes))) % next.step ≡ (next.filled + (length rest - taken.bytes)) % now.step =
    ap₂ (λ (x y : ℕ). (next.filled + x) % y) (sym left) e.step
    in
    let now_filled : (now.filled + length rest) % now.step ≡ (now.filled + (length piece - at)) % now.step =
    ap (λ (x : ℕ). (now.filled + x) % now.step) len
    in
    let few = e.few in
    record {
      within = omega (arith, few, len);
      inside = let fits = e.fits in omega (arith, fits, length-append {A = ℕ}, length-take {A = ℕ}, length-drop {A = ℕ}, i.inside);
      kind = e.kind ∙ i.kind;
      step = e.step ∙ i.step;
      part = e.within;
      gives = subst (λ (o : List ℕ). Gives start next (take (at + taken.bytes) piece) o) (sym put)
          (subst (λ (b : List ℕ). Gives start next b (take place out ++ take taken.sums new)) joined
          (Gives-again start now next (take at piece) (take taken.bytes rest) (take place out) (take taken.sums new) i.gives e.gives));
      count = let same = i.step in omega (arith, next_count, now_count, first_count, last_count);
      filled = next_filled ∙ e.filled ∙ now_filled ∙ i.filled;
    }

pub returns-clause-gives : goal.returns-clause-gives
returns-clause-gives c =
    let piece = c.args.piece.now in
    let i = c.loop-at.invariant in
    let now = c.loop-at.self in
    let within : c.loop-at.at ≤ length piece = i.within in
    let ended = c.loop-at-test.false in
    let all : take c.loop-at.at piece ≡ piece = take_all c.loop-at.at piece ended in
    let none : length piece - c.loop-at.at ≡ 0 = omega arith in
    let last : (now.filled + (length piece - c.loop-at.at)) / now.step ≡ 0 =
    ap (λ (n : ℕ). (now.filled + n) / now.step) none ∙ div-eq_of_lt (let p = i.part in omega (arith, p))
    in
    let start = c.args.self.now in
    let view = c.self.view_is in
    let whole : (c.self.inside.filled + length piece) / c.self.inside.header.step ≡ (start.filled + length piece) / start.step =
    ap (λ (p : Progress). (p.filled + length piece) / p.step) view
    in
    let count = i.count in
    let place : c.loop-at.place ≡ 4 * ((c.self.inside.filled + length piece) / c.self.inside.header.step) = omega (arith, last, whole, count) in
    subst (λ (n : ℕ). Gives start now piece (take n c.loop-at.out)) place
    (subst (λ (b : List ℕ). Gives start now b (take c.loop-at.place c.loop-at.out)) all i.gives)
