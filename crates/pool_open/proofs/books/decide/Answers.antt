use Rattle.std.proofs.Common.{List, None, subst}
use Rattle.dup_resolve.specs.declared.CopyRow.{CopyRow}
use Rattle.dup_resolve.specs.Picks.{IsPicked}
use Rattle.pool_open.proofs.Copies.{picked_kept}
use Rattle.pool_open.proofs.books.decide.Goals as goal

pub returns-in-Some-clause-outcome : goal.returns-in-Some-clause-outcome
returns-in-Some-clause-outcome g c =
    picked_kept (g.D.PoolDisks.worlds c.find_copies.new.disks) c.args.id c.args.places.now c.find_copies.new.copies.items c.in-Some.kept c.index.result.now c.index.ensures
    (subst (λ (l : List CopyRow). IsPicked l None c.in-Some.kept) c.deref.ensures.value c.in-Some.ensures) c.in_ok-find_copies.ensures.copies
