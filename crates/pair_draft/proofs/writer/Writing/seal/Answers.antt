use Rattle.std.proofs.Common.{◌≡◌, ◌++◌, sym, subst, ◌∙◌, Some}
use Rattle.std.specs.Prelude.{Option, option_and_then}
use Rattle.pair_draft.specs.Writers.{meta_header}
use Rattle.pair_draft.proofs.writer.Writing.seal.Goals as goal

pub returns-in-Ok-seal-2-clause-sealed : goal.returns-in-Ok-seal-2-clause-sealed
returns-in-Ok-seal-2-clause-sealed g c = λ told bytes pushed.
    let w = c.in-Ok.ensures.written told bytes pushed in
    let meta_is = sym c.take.ensures.value ∙ c.in-Some.is in
    record {
      len = w.len;
      sums = w.sums;
      of_bytes = w.of_bytes;
      block_bytes = λ tells. c.in-Ok-seal-2.ensures.bytes ∙ w.block_bytes tells;
      meta_bytes = λ tells. c.in-Ok-seal.ensures.bytes
          ∙ subst (λ (m : Option g.row.D-Draft.Denot). option_and_then g.D.Draft.Draft.bytes m ≡ Some (meta_header ++ w.sums)) meta_is (w.meta_bytes tells);
    }
