use Rattle.std.proofs.Common.{◌≡◌, ◌++◌, take}
use Rattle.std.specs.List.{flat_map}
use Rattle.pool_open.specs.Plan.{places_at}
use Rattle.pool_open.specs.Surplus.{surplus_on}
use Rattle.pool_open.proofs.metas.push_all_surplus.Given as goal

abbrev pub invariant-loop-on : goal.invariant-loop-on
invariant-loop-on l = places_at l.places.items ≡ places_at l.fn.places.items ++ flat_map (surplus_on l.id) (take l.on-index l.found)
