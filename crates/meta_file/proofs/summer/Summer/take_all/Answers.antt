use Rattle.std.proofs.Common.{◌≡◌, ℕ, ◌+◌, ◌-◌, ◌/◌, ◌≤◌, List, ◌++◌, length, take, drop, subst, sym, ap, ap₂, ◌∙◌, arith, length-take, length-drop}
use Rattle.std.proofs.Math.Seq.{take-add}
use Rattle.std.proofs.lemmas.List.{take_all}
use Rattle.meta_file.specs.Sums.{Adds}
use Rattle.meta_file.proofs.SumLemmas.{Adds-again}
use Rattle.meta_file.proofs.summer.Summer.take_all.Goals as goal

pub take_some-at-requires-clause-room : goal.take_some-at-requires-clause-room
take_some-at-requires-clause-room c =
    let piece = c.args.piece.now in
    let at = c.loop-at.at in
    let now = c.loop-at.self in
    let within : at ≤ length piece = c.loop-at.invariant.0 in
    let rest : length (take (length piece - at) (drop at piece)) ≡ length piece - at =
    simp (length-take, length-drop) (omega (arith, within))
    in
    let same : (now.filled + length (take (length piece - at) (drop at piece))) / now.step ≡ (now.filled + (length piece - at)) / now.step =
    ap (λ (n : ℕ). (now.filled + n) / now.step) rest
    in
    let room = c.loop-at.invariant.4 in
    omega (arith, same, room)

pub loop-at-preserved : goal.loop-at-preserved
loop-at-preserved c =
    let piece = c.args.piece.now in
    let at = c.loop-at.at in
    let taken = c.take_some-at.result in
    let now = c.loop-at.self in
    let next = c.take_some-at.new.self in
    let within : at ≤ length piece = c.loop-at.invariant.0 in
    let rest = take (length piece - at) (drop at piece) in
    let len : length rest ≡ length piece - at = simp (length-take, length-drop) (omega (arith, within)) in
    let all : rest ≡ drop at piece = take_all (length piece - at) (drop at piece) (omega (arith, length-drop at piece)) in
    let few = c.take_some-at.ensures.few in
    let joined : take at piece ++ take taken rest ≡ take (at + taken) piece =
    ap (λ (r : List ℕ). take at piece ++ take taken r) all ∙ sym (take-add at taken piece)
    in
    let left : (next.filled + (length rest - taken)) / now.step ≡ (next.filled + (length piece - (at + taken))) / next.step =
    ap₂ (λ (x y : ℕ). (next.filled + x) / y) (omega (arith, len)) (sym c.take_some-at.ensures.step)
    in
    let before : (now.filled + length rest) / now.step ≡ (now.filled + (length piece - at)) / now.step =
    ap (λ (x : ℕ). (now.filled + x) / now.step) len
    in
    let room = c.take_some-at.ensures.room in
    let capacity = c.take_some-at.ensures.capacity in
    let had = c.loop-at.invariant.4 in (
      omega (arith, few, len),
      c.take_some-at.ensures.kind ∙ c.loop-at.invariant.1,
      c.take_some-at.ensures.step ∙ c.loop-at.invariant.2,
      subst (λ (b : List ℕ). Adds c.args.self.now next b c.args.out.now.items c.take_some-at.new.out.items) joined
          (Adds-again c.args.self.now now next (take at piece) (take taken rest) c.args.out.now.items c.loop-at.out.items c.take_some-at.new.out.items
          c.loop-at.invariant.3 c.take_some-at.ensures.adds),
      omega (arith, room, capacity, had, left, before),
    )
