use Rattle.std.proofs.Common.{◌∙◌, sym, true, false}
use Rattle.script_lang.proofs.TextLists.{distinct_from}
use Rattle.script_lang.proofs.names.are_distinct.Goals as goal

pub returns-then-is_among : goal.returns-then-is_among
returns-then-is_among c =
    let step = distinct_from c.args.texts.now c.loop-at.at _ true c.loop-at-test.true (sym c.if-is_among.true ∙ c.is_among.ensures) in
    sym (sym c.loop-at.invariant ∙ step)

pub loop-at-preserved : goal.loop-at-preserved
loop-at-preserved c =
    let step = distinct_from c.args.texts.now c.loop-at.at _ false c.loop-at-test.true (sym c.if-is_among.false ∙ c.is_among.ensures) in
    sym step ∙ c.loop-at.invariant
