use Rattle.std.proofs.Common.{sym, ap}
use Rattle.std.specs.Prelude.{nat_le}
use Rattle.plan_json.proofs.ReadingLemmas.{item_count-items_view}
use Rattle.plan_json.proofs.read.is_short.Goals as goal

pub returns-clause-short : goal.returns-clause-short
returns-clause-short c = ap (λ n. nat_le n 1024) (sym (item_count-items_view c.args.values.now))
