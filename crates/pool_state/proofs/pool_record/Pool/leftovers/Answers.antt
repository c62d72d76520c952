use Rattle.std.proofs.Common.{sym, subst}
use Rattle.pool_state.specs.Books.{block_books}
use Rattle.pool_state.specs.Reports.{AreLoose}
use Rattle.pool_state.proofs.Counted.{loose_count}
use Rattle.pool_state.proofs.pool_record.Pool.leftovers.Goals as goal

pub returns : goal.returns
returns g c = subst (AreLoose (block_books c.args.self.now.map)) (sym c.loose_count.ensures) (loose_count c.args.self.now.map _ c.counts_are_sums.ensures.loose)
