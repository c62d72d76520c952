use Rattle.std.proofs.Common.{Err, ap, subst}
use Rattle.pool_open.specs.Remaining.{Remains}
use Rattle.pool_open.specs.Outcome.{disks_of}
use Rattle.pool_open.proofs.opening.open_pool.Goals as goal

pub returns-clause-memory : goal.returns-clause-memory
returns-clause-memory g c d is =
    subst (λ disks. Remains (g.D.PoolDisks.worlds c.args.disks) (g.D.PoolDisks.worlds disks)) (ap disks_of is) (c.in-Err-Memory.ensures.memory (ap Err c.in-Err-Memory.field-0-is))
