use Rattle.std.proofs.Common.{List, ◌++◌}
use Rattle.greedy_planner.specs.declared.volume.Turn.{Turn}
use Rattle.greedy_planner.specs.Greedy.{IsRun, IsPlanOf, steps_of}
use Rattle.greedy_planner.specs.Sound.{AreSound}
use Rattle.greedy_planner.proofs.Turns.{work_left}
use Rattle.greedy_planner.proofs.planning.steps_from.Given as goal

-- a run from these volumes on ends a plan
abbrev pub invariant-turns : goal.invariant-turns
invariant-turns l = record {
  sound : AreSound l.totals l.volumes;
  plan : (turns : List Turn) → IsRun l.totals l.threshold l.volumes turns
      → IsPlanOf l.totals l.threshold l.fn.volumes (l.steps.items ++ steps_of l.totals l.volumes turns);
}

abbrev pub decreases-turns : goal.decreases-turns
decreases-turns l = work_left l.totals l.volumes
