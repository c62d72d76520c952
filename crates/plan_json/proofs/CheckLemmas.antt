-- Plans without a strange volume are on the node.
use Rattle.std.proofs.Common.{◌≡◌, ℕ, List, [], ◌∷◌, Bool, true, false, not, cond, Some, None, refl}
use Rattle.std.specs.Prelude.{find, All, Contains}
use Rattle.std.specs.Str.{bytes_eq}
use Rattle.std.proofs.lemmas.List.Elements.{All-nil, All-cons}
use Rattle.std.proofs.lemmas.Map.Views.{Contains-from_any}
use Rattle.std.proofs.lemmas.Slice.Eq.{bytes_eq-Decides}
use Rattle.plan_json.specs.declared.step.PlanStep.{PlanStep}
use Rattle.plan_json.specs.Checks.{is_among, named_volumes, strange_volume}

-- texts that compare equal are the same
bytes_eq-same : (x y : List ℕ) → bytes_eq x y ≡ true → x ≡ y
bytes_eq-same x y e = (bytes_eq-Decides x y).0 e

Contains-from_is_among : (volumes : List (List ℕ)) (uuid : List ℕ) → is_among volumes uuid ≡ true → Contains volumes uuid
Contains-from_is_among volumes uuid e = Contains-from_any bytes_eq-same uuid volumes e

-- where no text of a list is strange, each is among the volumes
find-none-head : (volumes : List (List ℕ)) (uuid : List ℕ) (rest : List (List ℕ))
    → find (λ u. not (is_among volumes u)) (uuid ∷ rest) ≡ None
    → Contains volumes uuid × (find (λ u. not (is_among volumes u)) rest ≡ None)
find-none-head volumes uuid rest none = by (is_among volumes uuid) refl none
  where
    by : (b : Bool) → is_among volumes uuid ≡ b → cond (not b) (Some uuid) (find (λ u. not (is_among volumes u)) rest) ≡ None
        → Contains volumes uuid × (find (λ u. not (is_among volumes u)) rest ≡ None)
    by true e h = (Contains-from_is_among volumes uuid e, h)
    by false e h = absurd (cc)

pub IsOn-from_none : (volumes : List (List ℕ)) (steps : List PlanStep) → strange_volume volumes steps ≡ None
    → All (λ step. Contains volumes step.from × Contains volumes step.to) steps
IsOn-from_none volumes [] none = All-nil (λ step. Contains volumes step.from × Contains volumes step.to)
IsOn-from_none volumes (step ∷ steps) none =
    let first = find-none-head volumes step.from (step.to ∷ named_volumes steps) none in
    let second = find-none-head volumes step.to (named_volumes steps) first.1 in
    All-cons (λ s. Contains volumes s.from × Contains volumes s.to) step steps (first.0, second.0) (IsOn-from_none volumes steps second.1)
