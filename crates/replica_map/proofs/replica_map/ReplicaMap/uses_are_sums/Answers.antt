use Rattle.std.proofs.Common.{subst}
use Rattle.replica_map.specs.Books.{used}
use Rattle.replica_map.specs.Uses.{block_use, IsSumOf}
use Rattle.replica_map.specs.contracts.replica_map.ReplicaMap.{the_view}
use Rattle.replica_map.proofs.BlockSums.{blocks_sum}
use Rattle.replica_map.proofs.replica_map.ReplicaMap.uses_are_sums.Goals as goal

pub returns : goal.returns
returns c = λ vol.
    subst (λ b. IsSumOf (block_use vol b) (used vol b)) c.self.view_is
    (blocks_sum vol (the_view c.self.inside) c.len-rows_rise.ensures.rises c.len-tickets_rise.ensures.rises)
