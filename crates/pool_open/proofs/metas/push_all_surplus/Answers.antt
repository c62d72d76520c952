use Rattle.std.proofs.Common.{sym, subst}
use Rattle.std.proofs.lemmas.List.Elements.{All-get_or}
use Rattle.pool_survey.specs.declared.places.FoundOn.{FoundOn}
use Rattle.pool_open.specs.Surplus.{HasFiles}
use Rattle.pool_open.proofs.metas.push_all_surplus.Goals as goal

pub push_surplus-requires : goal.push_surplus-requires
push_surplus-requires c = subst (λ (on : FoundOn). HasFiles on) (sym c.on-item.is)
    (All-get_or HasFiles c.args.found.now c.loop-on.on-index c.on-item.result c.loop-on-test.true c.requires)
