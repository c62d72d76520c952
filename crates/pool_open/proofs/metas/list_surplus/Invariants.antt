use Rattle.std.proofs.Common.{◌≡◌, ◌++◌, All, Some}
use Rattle.std.specs.List.{flat_map}
use Rattle.std.specs.Ordering.{nat_cmp}
use Rattle.std.specs.BTreeMap.{get}
use Rattle.pool_open.specs.Plan.{places_at}
use Rattle.pool_open.specs.Surplus.{surplus_of, surplus_places}
use Rattle.pool_open.proofs.metas.list_surplus.Given as goal

abbrev pub invariant-loop-id : goal.invariant-loop-id
invariant-loop-id l = record {
  listed : All (λ entry. get nat_cmp l.blocks entry.0 ≡ Some entry.1) l.id-iterator;
  places_are : places_at l.places.items ++ flat_map surplus_of l.id-iterator ≡ surplus_places l.blocks.entries;
}
