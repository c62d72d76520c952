use Rattle.std.proofs.Common.{ap}
use Rattle.pool_state.specs.Books.{block_books}
use Rattle.pool_state.proofs.Changing.{empty_stands}
use Rattle.pool_state.proofs.pool.make_pool.Goals as goal

pub returns-clause-stands : goal.returns-clause-stands
returns-clause-stands g c known = empty_stands _ _ _ known c.requires.some_volume c.requires.empty (λ id. ap (λ m. block_books m id) c.make.ensures)
