use Rattle.std.proofs.Common.{◌≡◌, sym, ap, subst, ◌∙◌, arith, rules, inl, inr, Err}
use Rattle.std.specs.Prelude.{IsErr}
use Rattle.meta_file.specs.declared.verdict.Verdict.TheVariants.{Whole}
use Rattle.meta_file.specs.Verdicts.{verdict_of}
use Rattle.meta_file.proofs.VerdictLemmas.{whole_is_match}
use Rattle.pair_draft.proofs.Lengths.{whole_is_not_short}
use Rattle.pair_draft.proofs.base.Basing.fill.Goals as goal

pub returns-in_default-clause-failed : goal.returns-in_default-clause-failed
returns-in_default-clause-failed g c = λ _.
    let checked = c.verify.ensures in
    let err : IsErr c.verify.result = search rules in
    elim (checked.failed err) [
      | inl block ↦ inr (inl (record { later = c.verify.new.block; number_is = checked.block.number_is; rose = block }))
      | inr meta ↦ inr (inr (record { later = c.verify.new.meta; number_is = checked.meta.number_is; rose = meta }))
    ]

pub returns-then-ne-clause-bad : goal.returns-then-ne-clause-bad
returns-then-ne-clause-bad g c all sums tells verdict is =
    let known = c.in-Ok.ensures.verdict all sums tells.block_is tells.meta_is tells.few in cc

pub returns-then-ne-clause-matching : goal.returns-then-ne-clause-matching
returns-then-ne-clause-matching g c all sums tells matches same verdict is =
    let known = c.in-Ok.ensures.verdict all sums tells.block_is tells.meta_is tells.few in
    let whole : verdict_of sums all c.args.self.base_len ≡ Whole = subst (λ n. verdict_of sums all n ≡ Whole) same ((whole_is_match sums all).1 matches) in
    let differs : c.in-Ok.verdict ≡ Whole → ⊥ = search rules in
    differs (known ∙ whole)

pub returns-in-Ok-copy_base-clause-verified : goal.returns-in-Ok-copy_base-clause-verified
returns-in-Ok-copy_base-clause-verified g c all sums tells =
    let known = c.in-Ok.ensures.verdict all sums tells.block_is tells.meta_is tells.few in
    let whole : c.in-Ok.verdict ≡ Whole = search rules in
    sym known ∙ whole

pub returns-clause-bad : goal.returns-clause-bad
returns-clause-bad g c all sums tells verdict is =
    let known = c.in-Ok.ensures.verdict all sums tells.block_is tells.meta_is tells.few in
    let whole : c.in-Ok.verdict ≡ Whole = search rules in
    let few = c.in-Err.ensures.ended all (c.in-Ok.ensures.block.bytes_are ∙ tells.block_is) verdict (ap Err is) in
    absurd (whole_is_not_short sums all c.args.self.base_len c.in-Ok.verdict known whole few)

pub returns-clause-same_bad : goal.returns-clause-same_bad
returns-clause-same_bad g c all sums tells verdict is =
    let known = c.in-Ok.ensures.verdict all sums tells.block_is tells.meta_is tells.few in
    let whole : c.in-Ok.verdict ≡ Whole = search rules in
    let few = c.in-Err.ensures.ended all (c.in-Ok.ensures.block.bytes_are ∙ tells.block_is) verdict (ap Err is) in
    absurd (whole_is_not_short sums all c.args.self.base_len c.in-Ok.verdict known whole few)

pub returns-clause-failed : goal.returns-clause-failed
returns-clause-failed g c = λ failed.
    let copied = c.in-Err.ensures in
    let checked = c.in-Ok.ensures in
    elim (copied.failed (ap Err failed)) [
      | inl draft ↦ inl draft
      | inr reader ↦ inr (inl (record {
        later = c.copy_base.new.block;
        number_is = copied.same.number_is ∙ checked.block.number_is;
        rose = let before = checked.block_later in omega (arith, before, reader);
      }))
    ]
