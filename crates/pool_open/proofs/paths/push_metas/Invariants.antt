use Rattle.std.proofs.Common.{◌≡◌, ◌++◌, map, take}
use Rattle.volume_layout.specs.Paths.{meta_path}
use Rattle.pool_open.specs.Plan.{places_at}
use Rattle.pool_open.proofs.paths.push_metas.Given as goal

abbrev pub invariant-loop-stamp : goal.invariant-loop-stamp
invariant-loop-stamp l = places_at l.places.items ≡ places_at l.fn.places.items ++ map (λ stamp. (l.on.vol, meta_path l.id stamp)) (take l.stamp-index l.stamp-items)
