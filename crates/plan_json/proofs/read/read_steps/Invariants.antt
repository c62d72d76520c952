use Rattle.std.proofs.Common.{◌≡◌, ◌++◌, drop, Ok, length}
use Rattle.std.specs.Prelude.{All}
use Rattle.serde_json.specs.View.{items_view}
use Rattle.plan_json.specs.Forms.{IsStepInForm}
use Rattle.plan_json.specs.Plans.{steps_of, ◌>>=◌}
use Rattle.plan_json.proofs.read.read_steps.Given as goal

-- the steps of the list are those that were read, then those of the rest
abbrev pub invariant-loop-value : goal.invariant-loop-value
invariant-loop-value l =
    (steps_of (items_view l.values) ≡ (steps_of (items_view (drop l.value-index l.values)) >>= (λ rest. Ok (l.steps.items ++ rest))))
    × (length l.steps.items ≡ l.value-index)
    × All IsStepInForm l.steps.items
