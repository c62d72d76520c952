use Rattle.replica_map.proofs.KeptLemmas.{uses_fit}
use Rattle.replica_map.proofs.replica_map.ReplicaMap.from_rows.Goals as goal

pub count_leftovers-requires-clause-fits : goal.count_leftovers-requires-clause-fits
count_leftovers-requires-clause-fits c = uses_fit c.in_ok-tally.ensures
