use Rattle.std.proofs.Common.{◌-◌, ◌^◌, min, arith, sym, subst, ◌∙◌, ap}
use Rattle.std.proofs.lemmas.List.{get_or_default}
use Rattle.replica_map.specs.Books.{used}
use Rattle.replica_map.specs.Uses.{IsSumOf}
use Rattle.pool_state.specs.Books.{block_books}
use Rattle.pool_state.specs.Reports.{books_replicas}
use Rattle.pool_state.proofs.Counted.{counts, replicas_count}
use Rattle.pool_state.proofs.pool_record.Pool.volume_use.Goals as goal

pub returns : goal.returns
returns g c =
    let map = c.args.self.now.map in
    let vol = c.args.vol in
    record {
      capacity = c.index.ensures ∙ get_or_default c.args.self.now.shares.items (vol - 1) c.index.result.now 0 (omega (arith, c.requires.volume, c.args.self.now.shared));
      used = used vol map;
      is_used = counts map c.args.self.now.no_moves c.uses_are_sums.ensures vol;
      shown_used = c.at_most.ensures ∙ ap (λ n. min n (2 ^ 54)) c.used.ensures;
      replicas = subst (IsSumOf (λ id. books_replicas vol (block_books map id))) (sym c.replicas.ensures) (replicas_count map vol _ (c.counts_are_sums.ensures.replicas vol));
    }
