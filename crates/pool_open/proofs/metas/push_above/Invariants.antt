use Rattle.std.proofs.Common.{◌≡◌, ◌++◌, take}
use Rattle.pool_open.specs.Plan.{places_at}
use Rattle.pool_open.specs.Surplus.{metas_at, above}
use Rattle.pool_open.proofs.metas.push_above.Given as goal

abbrev pub invariant-loop-stamp : goal.invariant-loop-stamp
invariant-loop-stamp l = places_at l.places.items ≡ places_at l.fn.places.items ++ metas_at l.on.vol l.id (above l.kept (take l.stamp-index l.stamp-items))
