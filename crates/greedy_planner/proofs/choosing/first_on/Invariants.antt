use Rattle.greedy_planner.specs.Volumes.{IsFound}
use Rattle.greedy_planner.proofs.choosing.first_on.Given as goal

abbrev pub invariant-loop-i : goal.invariant-loop-i
invariant-loop-i l = IsFound l.side l.volumes l.i l.first
