use Rattle.std.proofs.Common.{sym, subst, arith}
use Rattle.std.proofs.lemmas.List.Elements.{All-get_or}
use Rattle.pool_survey.specs.declared.places.FoundOn.{FoundOn}
use Rattle.pool_open.specs.Surplus.{HasFiles}
use Rattle.pool_open.proofs.Bringing.{brought_each}
use Rattle.pool_open.proofs.metas.bring_down_all.Goals as goal

pub bring_down_on-requires : goal.bring_down_on-requires
bring_down_on-requires c =
    subst (λ (on : FoundOn). HasFiles on) (sym (c.loop-on.invariant.rest c.loop-on.on-index c.on-item.result (omega arith)))
    (All-get_or HasFiles c.args.places.now c.loop-on.on-index c.on-item.result (omega (arith, c.loop-on-test.true)) c.requires)

pub returns : goal.returns
returns c = brought_each c.args.places.now c.loop-on.places (omega arith) (λ k d inside. c.loop-on.invariant.done k d (omega (arith, inside, c.loop-on-test.false)))
