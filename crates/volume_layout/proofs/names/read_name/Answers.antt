use Rattle.std.proofs.Common.{◌≡◌, ◌++◌, Some, None, ap, sym, ◌∙◌, arith}
use Rattle.std.specs.Prelude.{decimal, codes}
use Rattle.std.proofs.lemmas.Str.Pattern.{split_parts}
use Rattle.volume_layout.specs.Paths.{block_name, meta_name}
use Rattle.volume_layout.proofs.NameLemmas.{prefix_parts, suffix_parts, lacks_prefix, other_from_rest, decimal_no_suffix, middle_is, split_decimals, whole_meta}
use Rattle.volume_layout.proofs.names.read_name.Goals as goal

pub returns-in_default : goal.returns-in_default
returns-in_default c = lacks_prefix c.args.name.now (λ rest same. c.in_default.ensures.cases rest same)

pub returns-in-Some-number_in : goal.returns-in-Some-number_in
unfolding block_name
returns-in-Some-number_in c =
    let rest : c.args.name.now ≡ codes "blk_" ++ c.in-Some.rest.now = prefix_parts (codes "blk_") c.args.name.now c.in-Some.rest.now c.in-Some.ensures.cases in
    (c.in-Some-number_in.ensures.some.0, rest ∙ ap (λ t. codes "blk_" ++ t) c.in-Some-number_in.ensures.some.1)

pub returns-in-None-number_in : goal.returns-in-None-number_in
returns-in-None-number_in c =
    let rest : c.args.name.now ≡ codes "blk_" ++ c.in-Some.rest.now = prefix_parts (codes "blk_") c.args.name.now c.in-Some.rest.now c.in-Some.ensures.cases in
    other_from_rest c.args.name.now c.in-Some.rest.now rest c.in-None-number_in.ensures.none
    (λ id stamp valid stamped same. c.in-None.ensures.cases (decimal id ++ codes "_" ++ decimal stamp) same)

pub returns-in-None-split_once : goal.returns-in-None-split_once
returns-in-None-split_once c =
    let rest : c.args.name.now ≡ codes "blk_" ++ c.in-Some.rest.now = prefix_parts (codes "blk_") c.args.name.now c.in-Some.rest.now c.in-Some.ensures.cases in
    let middle : c.in-Some.rest.now ≡ c.in-Some-strip_suffix.middle.now ++ codes ".meta" = suffix_parts (codes ".meta") c.in-Some.rest.now c.in-Some-strip_suffix.middle.now c.in-Some-strip_suffix.ensures.cases in
    other_from_rest c.args.name.now c.in-Some.rest.now rest
    (λ id valid same. decimal_no_suffix id c.in-Some-strip_suffix.middle.now valid (sym middle ∙ same))
    (λ id stamp valid stamped same.
    let parts = middle_is (decimal id) (decimal stamp) c.in-Some-strip_suffix.middle.now (sym middle ∙ same) in
    split_decimals id stamp c.in-Some-strip_suffix.middle.now None valid c.in-None-split_once.ensures.cases parts)

pub returns-in-None-number_in-2 : goal.returns-in-None-number_in-2
returns-in-None-number_in-2 c =
    let rest : c.args.name.now ≡ codes "blk_" ++ c.in-Some.rest.now = prefix_parts (codes "blk_") c.args.name.now c.in-Some.rest.now c.in-Some.ensures.cases in
    let middle : c.in-Some.rest.now ≡ c.in-Some-strip_suffix.middle.now ++ codes ".meta" = suffix_parts (codes ".meta") c.in-Some.rest.now c.in-Some-strip_suffix.middle.now c.in-Some-strip_suffix.ensures.cases in
    other_from_rest c.args.name.now c.in-Some.rest.now rest
    (λ id valid same. decimal_no_suffix id c.in-Some-strip_suffix.middle.now valid (sym middle ∙ same))
    (λ id stamp valid stamped same.
    let parts = middle_is (decimal id) (decimal stamp) c.in-Some-strip_suffix.middle.now (sym middle ∙ same) in
    let halves = split_decimals id stamp c.in-Some-strip_suffix.middle.now (Some (c.in-Some-split_once.id, c.in-Some-split_once.stamp)) valid c.in-Some-split_once.ensures.cases parts in
    c.in-None-number_in-2.ensures.none id valid halves.0)

pub returns-in-None-number_in-3 : goal.returns-in-None-number_in-3
returns-in-None-number_in-3 c =
    let rest : c.args.name.now ≡ codes "blk_" ++ c.in-Some.rest.now = prefix_parts (codes "blk_") c.args.name.now c.in-Some.rest.now c.in-Some.ensures.cases in
    let middle : c.in-Some.rest.now ≡ c.in-Some-strip_suffix.middle.now ++ codes ".meta" = suffix_parts (codes ".meta") c.in-Some.rest.now c.in-Some-strip_suffix.middle.now c.in-Some-strip_suffix.ensures.cases in
    other_from_rest c.args.name.now c.in-Some.rest.now rest
    (λ id valid same. decimal_no_suffix id c.in-Some-strip_suffix.middle.now valid (sym middle ∙ same))
    (λ id stamp valid stamped same.
    let parts = middle_is (decimal id) (decimal stamp) c.in-Some-strip_suffix.middle.now (sym middle ∙ same) in
    let halves = split_decimals id stamp c.in-Some-strip_suffix.middle.now (Some (c.in-Some-split_once.id, c.in-Some-split_once.stamp)) valid c.in-Some-split_once.ensures.cases parts in
    c.in-None-number_in-3.ensures.none stamp stamped halves.1)

pub returns-in-Some-number_in-3 : goal.returns-in-Some-number_in-3
unfolding meta_name block_name
returns-in-Some-number_in-3 c =
    let rest : c.args.name.now ≡ codes "blk_" ++ c.in-Some.rest.now = prefix_parts (codes "blk_") c.args.name.now c.in-Some.rest.now c.in-Some.ensures.cases in
    let middle : c.in-Some.rest.now ≡ c.in-Some-strip_suffix.middle.now ++ codes ".meta" = suffix_parts (codes ".meta") c.in-Some.rest.now c.in-Some-strip_suffix.middle.now c.in-Some-strip_suffix.ensures.cases in
    let halves = split_parts 95 c.in-Some-strip_suffix.middle.now (Some (c.in-Some-split_once.id, c.in-Some-split_once.stamp)) c.in-Some-split_once.ensures.cases (omega arith) in
    let text = whole_meta c.args.name.now c.in-Some.rest.now c.in-Some-strip_suffix.middle.now c.in-Some-split_once.id.now c.in-Some-split_once.stamp.now
    c.in-Some-number_in-2.id c.in-Some-number_in-3.stamp rest middle halves.0 c.in-Some-number_in-2.ensures.some.1 c.in-Some-number_in-3.ensures.some.1 in
    (c.in-Some-number_in-2.ensures.some.0, c.in-Some-number_in-3.ensures.some.0, text)
