use Rattle.std.proofs.Common.{rules, ◌≡◌, arith, sym, ◌∙◌, subst}
use Rattle.meta_file.specs.declared.verdict.Verdict.TheVariants.{Whole}
use Rattle.meta_file.specs.Verdicts.{verdict_of}
use Rattle.meta_file.proofs.VerdictLemmas.{whole_is_match}
use Rattle.client_ops.proofs.Deciding.{whole_is_long, at_ok}
use Rattle.client_ops.proofs.reading.read_all.Goals as goal

pub returns-then-ne-clause-bad : goal.returns-then-ne-clause-bad
returns-then-ne-clause-bad g c all sums tells verdict is =
    let known = c.in-Ok.ensures.verdict all sums tells.block_is tells.meta_is tells.few in cc

pub returns-then-ne-clause-whole : goal.returns-then-ne-clause-whole
returns-then-ne-clause-whole g c all sums tells matches same verdict is =
    let known = c.in-Ok.ensures.verdict all sums tells.block_is tells.meta_is tells.few in
    let whole : verdict_of sums all c.args.pair.len ≡ Whole = subst (λ n. verdict_of sums all n ≡ Whole) same ((whole_is_match sums all).1 matches) in
    let differs : c.in-Ok.verdict ≡ Whole → ⊥ = search rules in
    differs (known ∙ whole)

pub returns-clause-verified : goal.returns-clause-verified
returns-clause-verified g c all sums tells =
    let known = c.in-Ok.ensures.verdict all sums tells.block_is tells.meta_is tells.few in
    let whole : c.in-Ok.verdict ≡ Whole = search rules in
    at_ok c.read_block.result (sym known ∙ whole)

pub returns-clause-bad : goal.returns-clause-bad
returns-clause-bad g c all sums tells verdict is =
    let known = c.in-Ok.ensures.verdict all sums tells.block_is tells.meta_is tells.few in
    let whole : c.in-Ok.verdict ≡ Whole = search rules in
    let few = c.read_block.ensures.short all (c.in-Ok.ensures.block.bytes_are ∙ tells.block_is) verdict is in
    absurd (omega (arith, few, whole_is_long sums all c.args.pair.len (sym known ∙ whole)))
