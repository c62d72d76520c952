use Rattle.std.proofs.Common.{sym}
use Rattle.replica_map.proofs.Replicas.{places_order, count_range}
use Rattle.replica_map.proofs.sorted.Sorted.count_between.Goals as goal

pub overflow_sub-result : goal.overflow_sub-result
overflow_sub-result g c = places_order g.T.Keyed.key _ c.args.low c.args.high c.place-2.result c.place.result c.requires.order c.place-2.ensures c.place.ensures

pub returns : goal.returns
returns g c = sym (count_range g.T.Keyed.key _ c.args.low c.args.high c.place-2.result c.place.result c.requires.order c.place-2.ensures c.place.ensures)
