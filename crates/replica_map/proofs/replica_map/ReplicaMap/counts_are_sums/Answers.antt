use Rattle.std.proofs.Common.{subst}
use Rattle.replica_map.specs.Books.{replicas, loose}
use Rattle.replica_map.specs.Uses.{block_replicas, block_loose, IsSumOf}
use Rattle.replica_map.specs.contracts.replica_map.ReplicaMap.{the_view}
use Rattle.replica_map.proofs.Replicas.{replicas_sum, loose_sum}
use Rattle.replica_map.proofs.replica_map.ReplicaMap.counts_are_sums.Goals as goal

pub returns-clause-replicas : goal.returns-clause-replicas
returns-clause-replicas c = λ vol.
    subst (λ b. IsSumOf (block_replicas vol b) (replicas vol b)) c.self.view_is (replicas_sum vol (the_view c.self.inside) c.len-rows_rise.ensures.rises)

pub returns-clause-loose : goal.returns-clause-loose
returns-clause-loose c = subst (λ b. IsSumOf (block_loose b) (loose b)) c.self.view_is (loose_sum (the_view c.self.inside))
