use Rattle.replica_map.proofs.BlockSums.{sums_are_unique}
use Rattle.replica_map.proofs.replica_map.sums_are_unique.Goals as goal

pub returns : goal.returns
returns c = sums_are_unique
