use Rattle.std.proofs.Common.{◌≡◌, ◌<◌, ◌≤◌, ℕ, get_or}
use Rattle.pool_survey.specs.declared.places.FoundOn.{FoundOn}
use Rattle.pool_open.specs.Surplus.{IsBroughtDown}
use Rattle.pool_open.proofs.metas.bring_down_all.Given as goal

abbrev pub invariant-loop-on : goal.invariant-loop-on
invariant-loop-on l = record {
  done : (k : ℕ) (d : FoundOn) → k < l.on-index → IsBroughtDown (get_or l.fn.places k d) (get_or l.places k d);
  rest : (k : ℕ) (d : FoundOn) → l.on-index ≤ k → get_or l.places k d ≡ get_or l.fn.places k d;
}
