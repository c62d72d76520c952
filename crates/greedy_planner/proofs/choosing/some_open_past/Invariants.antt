use Rattle.std.proofs.Common.{◌≡◌, drop}
use Rattle.std.specs.List.{list_any}
use Rattle.greedy_planner.specs.Greedy.{is_open_past}
use Rattle.greedy_planner.proofs.choosing.some_open_past.Given as goal

abbrev pub invariant-loop-v : goal.invariant-loop-v
invariant-loop-v l = list_any (is_open_past l.totals l.threshold) l.volumes ≡ list_any (is_open_past l.totals l.threshold) (drop l.v-index l.volumes)
