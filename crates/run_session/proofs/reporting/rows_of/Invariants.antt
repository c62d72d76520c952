use Rattle.std.specs.Prelude.{◌≡◌, length}
use Rattle.pool_state.specs.Books.{block_books}
use Rattle.run_model.specs.Reports.{ShowRows}
use Rattle.run_session.proofs.reporting.rows_of.Given as goal

abbrev pub invariant-loop-i : goal.invariant-loop-i
invariant-loop-i g l = record {
  counted : length l.rows.items ≡ l.i;
  shows : ShowRows l.pool.shares.items (block_books l.pool.map) 1 l.rows.items;
}
