-- The steps of a plan go between its rows, with no more bytes than a volume of the input can hold.
use Rattle.std.proofs.Common.{◌≡◌, ◌⊎◌, ◌∙◌, inl, inr, sym, ap, subst, ℕ, ◌+◌, ◌-◌, ◌<◌, ◌≤◌, ◌^◌, List, [], ◌∷◌, length, set, get_or, arith, All}
use Rattle.std.specs.Prelude.{slice_index}
use Rattle.std.proofs.lemmas.Bool.{cases_eq}
use Rattle.std.proofs.lemmas.List.{get_or-map, get_or-set_same, get_or-set_other, length-set, length-map}
use Rattle.std.proofs.lemmas.List.Elements.{All-cons}
use Rattle.density.specs.declared.volume_use.VolumeUse.{VolumeUse}
use Rattle.greedy_planner.specs.declared.volume.Step.{Step}
use Rattle.greedy_planner.specs.Steps.{KeepsTargets, AllKeepTargets, uses_after_step, uses_of as used_of, targets_of}
use Rattle.plan_tool.specs.declared.row.Row.{Row}
use Rattle.plan_tool.specs.Rows.{AreRows, use_of, uses_of}
use Rattle.plan_tool.specs.Plans.{IsInLimits}

-- a volume holds no more than 2^54 bytes, or it is not above its target, and then it gives none
abbrev pub Bounded : List ℕ → List ℕ → Type 0
Bounded targets uses = (k : ℕ) → k < length uses → (slice_index uses k ≤ 2 ^ 54) ⊎ (slice_index uses k ≤ slice_index targets k)

length_after : (uses : List ℕ) (step : Step) → length (uses_after_step step uses) ≡ length uses
length_after uses step =
    length-set (set uses step.from (slice_index uses step.from - step.bytes)) step.to (slice_index uses step.to + step.bytes)
    ∙ length-set uses step.from (slice_index uses step.from - step.bytes)

few_bytes : (targets uses : List ℕ) (step : Step) → KeepsTargets targets uses step → Bounded targets uses → slice_index uses step.from ≤ 2 ^ 54
few_bytes targets uses step keeps b = elim (b step.from keeps.from) [
  | inl e ↦ e
  | inr e ↦ absurd (let s = keeps.some in let g = keeps.gives in omega arith)
]

-- what a volume holds once it gave, what one holds once it took, and the volumes in between
abbrev left_at : List ℕ → Step → ℕ
left_at uses step = slice_index uses step.from - step.bytes

abbrev filled_at : List ℕ → Step → ℕ
filled_at uses step = slice_index uses step.to + step.bytes

abbrev given_at : List ℕ → Step → List ℕ
given_at uses step = set uses step.from (left_at uses step)

-- after a step it is so again
bounded_after : (targets uses : List ℕ) (step : Step) → KeepsTargets targets uses step → Bounded targets uses → Bounded targets (uses_after_step step uses)
bounded_after targets uses step keeps b k inside = elim (cases_eq k step.to) [
  | inl same ↦
      let at : slice_index (uses_after_step step uses) step.to ≡ filled_at uses step = get_or-set_same (given_at uses step) step.to (filled_at uses step) 0 (let to = keeps.to in let l = length-set uses step.from (left_at uses step) in omega arith) in
      subst (λ (i : ℕ). (slice_index (uses_after_step step uses) i ≤ 2 ^ 54) ⊎ (slice_index (uses_after_step step uses) i ≤ slice_index targets i)) (sym same) (inr (let takes = keeps.takes in omega arith))
  | inr apart ↦
      let other : slice_index (uses_after_step step uses) k ≡ slice_index (given_at uses step) k = get_or-set_other (given_at uses step) step.to k (filled_at uses step) 0 apart in
      elim (cases_eq k step.from) [
        | inl same ↦
            let at : slice_index (given_at uses step) step.from ≡ left_at uses step = get_or-set_same uses step.from (left_at uses step) 0 keeps.from in
            let most = few_bytes targets uses step keeps b in
            let is : slice_index (given_at uses step) k ≡ left_at uses step = ap (slice_index (given_at uses step)) same ∙ at in
            inl (omega arith)
        | inr off ↦
            let is : slice_index (given_at uses step) k ≡ slice_index uses k = get_or-set_other uses step.from k (left_at uses step) 0 off in
            elim (b k (let l = length_after uses step in omega arith)) [ inl e ↦ inl (omega arith) | inr e ↦ inr (omega arith) ]
      ]
]

steps_within : (rows : ℕ) (targets uses : List ℕ) (steps : List Step) → length uses ≡ rows → Bounded targets uses → AllKeepTargets targets uses steps → All (IsInLimits rows) steps
steps_within rows targets uses [] count b all = λ k d h. absurd (omega arith)
steps_within rows targets uses (step ∷ steps) count b all =
    let keeps = all.0 in
    let from = keeps.from in
    let to = keeps.to in
    let some = keeps.some in
    let gives = keeps.gives in
    let most = few_bytes targets uses step keeps b in
    All-cons (IsInLimits rows) step steps
    (record { from = omega arith; to = omega arith; some = omega arith; few = omega arith })
    (steps_within rows targets (uses_after_step step uses) steps (length_after uses step ∙ count) (bounded_after targets uses step keeps b) all.1)

-- the row and the use at no place
abbrev no_row : Row
no_row = record { uuid = []; capacity = 0; used = 0 }

row_used : (rows : List Row) (k : ℕ) → k < length rows → slice_index (used_of (uses_of rows)) k ≡ (get_or rows k no_row).used
row_used rows k inside =
    get_or-map (λ (v : VolumeUse). v.used) (uses_of rows) k (use_of no_row) 0 (let l = length-map rows use_of in omega arith)
    ∙ ap (λ (v : VolumeUse). v.used) (get_or-map use_of rows k no_row (use_of no_row) inside)

-- the steps over the rows of an input
pub rows_within : (rows : List Row) (report : List VolumeUse) (steps : List Step) → AreRows rows → report ≡ uses_of rows
    → AllKeepTargets (targets_of report) (used_of report) steps → All (IsInLimits (length rows)) steps
rows_within rows report steps are is all =
    steps_within (length rows) (targets_of (uses_of rows)) (used_of (uses_of rows)) steps count
    (λ k inside. let within : k < length rows = (let l = count in omega arith) in inl (let most = (are.each k no_row within).used in let at = row_used rows k within in omega arith))
    (subst (λ (r : List VolumeUse). AllKeepTargets (targets_of r) (used_of r) steps) is all)
  where
    count : length (used_of (uses_of rows)) ≡ length rows
    count = length-map (uses_of rows) (λ (v : VolumeUse). v.used) ∙ length-map rows use_of
