use Rattle.std.proofs.Common.{◌≡◌, ◌++◌, take}
use Rattle.pool_open.specs.Plan.{places_at, temporary_from}
use Rattle.pool_open.proofs.paths.list_temporary.Given as goal

abbrev pub invariant-loop-names : goal.invariant-loop-names
invariant-loop-names l = record {
  counted : l.vol ≡ l.names-index;
  places_are : places_at l.places.items ≡ places_at l.fn.places.items ++ temporary_from 1 (take l.names-index l.temporary);
}
