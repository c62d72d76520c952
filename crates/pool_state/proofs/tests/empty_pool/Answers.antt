use Rattle.std.proofs.Common.{sym, subst}
use Rattle.map_model.specs.Cells.{absent}
use Rattle.map_model.specs.Sound.{nothing}
use Rattle.pool_state.specs.Stands.{HoldNoBlock}
use Rattle.pool_state.proofs.EmptyDisks.{empty_disks}
use Rattle.pool_state.proofs.tests.empty_pool.Goals as goal

pub make_pool-requires-clause-empty : goal.make_pool-requires-clause-empty
make_pool-requires-clause-empty g = subst HoldNoBlock (sym g.in_ok-disks.ensures.empty) empty_disks

pub returns : goal.returns
returns c = record { stands = (λ id. absent, c.make_pool.ensures.stands nothing) }
