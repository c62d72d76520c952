use Rattle.std.proofs.Common.{◌∙◌, sym, length, subst, Option, ℕ}
use Rattle.greedy_planner.specs.Volumes.{IsFirstBelow, IsFound}
use Rattle.greedy_planner.proofs.Order.{first_before}
use Rattle.greedy_planner.proofs.choosing.first_with.Goals as goal

pub returns-then-comes_before : goal.returns-then-comes_before
returns-then-comes_before c =
    let found : Option ℕ → Type 0 = λ o. IsFound c.args.side c.args.volumes.now c.args.i o in
    let first : IsFirstBelow c.args.side c.args.volumes.now c.args.i c.in-Some.best = subst found c.in-Some.is c.requires.found in
    first_before c.args.side c.args.volumes.now (length c.args.volumes.now) c.in-Some.best c.args.i c.requires.capacities c.requires.inside first
    c.if-volumes-i.false (sym c.comes_before.ensures ∙ c.if-comes_before.true)
