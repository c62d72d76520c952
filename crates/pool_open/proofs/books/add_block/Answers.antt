use Rattle.std.proofs.Common.{refl, inr, subst}
use Rattle.pool_open.specs.Found.{IsOutcome}
use Rattle.pool_open.proofs.Adding.{final_adds, final_says, keeps_others}
use Rattle.pool_open.proofs.Looks.{looks_then}
use Rattle.pool_open.proofs.books.add_block.Goals as goal

pub returns-in_ok-add_final-in-Final-clause-says : goal.returns-in_ok-add_final-in-Final-clause-says
returns-in_ok-add_final-in-Final-clause-says g c =
    final_says c.args.rows.now.items c.args.leftovers.now.items c.args.id c.requires.nothing (g.D.PoolDisks.worlds c.decide.new.disks) c.args.places.now c.in-Final.copy c.args.rev
    (subst (IsOutcome (g.D.PoolDisks.worlds c.decide.new.disks) c.args.id c.args.places.now) c.in-Final.is c.in_ok-copy.ensures.outcome) _ c.in_ok-add_final-in-Final.ensures

pub returns-in_ok-add_final-in-Final-clause-others : goal.returns-in_ok-add_final-in-Final-clause-others
returns-in_ok-add_final-in-Final-clause-others g c =
    keeps_others c.args.id c.args.rev c.args.rows.now.items _ c.args.leftovers.now.items c.args.leftovers.now.items
    (inr (final_adds c.args.id c.args.rev c.in-Final.copy _ _ c.in_ok-add_final-in-Final.ensures)) (λ other apart. refl)

pub returns-in-Waiting-clause-looks : goal.returns-in-Waiting-clause-looks
returns-in-Waiting-clause-looks g c = looks_then g.D.PoolDisks _ _ _ c.decide.ensures.looks c.add_waiting.ensures.looks
