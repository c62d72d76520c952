use Rattle.std.proofs.Common.{◌≡◌, ◌+◌, ℕ, List, length, take, drop, ap, sym, ◌∙◌, arith, length-take, length-append}
use Rattle.std.proofs.lemmas.List.{drop-drop}
use Rattle.pair_draft.proofs.Pieces.{take_two}
use Rattle.pair_draft.proofs.files.read_full.Goals as goal

pub pieces-preserved : goal.pieces-preserved
pieces-preserved g c =
    let done = c.pieces.done in
    let count = c.in_ok-count.count in
    let i = c.pieces.invariant in
    let e = c.in_ok-count.ensures in
    let full : length (take done c.pieces.out) ≡ done = omega (arith, length-take done c.pieces.out, i.within) in
    record {
      within = omega (arith, full, e.within, length-append {A = ℕ});
      same = record { number_is = c.read_at.ensures.same.number_is ∙ i.same.number_is; bytes_are = c.read_at.ensures.same.bytes_are ∙ i.same.bytes_are };
      later = let more = c.read_at.ensures.cause.later in omega (arith, more, i.later);
      front = λ all is.
          let piece = e.read.bytes all (i.same.bytes_are ∙ is) in
          let there : drop (c.args.at + done) all ≡ drop done (drop c.args.at all) = sym (drop-drop done c.args.at all) in
          take_two done count c.pieces.out c.read_at.new.out _ (drop c.args.at all) full e.within (i.front all is)
          (piece ∙ ap (λ (l : List ℕ). take count l) there);
      inside = λ all is.
          let within = e.read.within all (i.same.bytes_are ∙ is) in
          omega (arith, within);
    }
