-- What holds of the steps of a run.
use Rattle.std.proofs.Common.{◌≡◌, ◌≢◌, ◌∙◌, inl, inr, sym, ap, subst, ℕ, ◌+◌, ◌-◌, ◌*◌, ◌<◌, ◌≤◌, true, false, Bool, cond, List, [], ◌∷◌, ◌++◌, length, set, get_or, map, arith, refl, length-append, append_assoc, ◌^◌}
use Rattle.std.specs.Prelude.{slice_index, sum, nat_eq}
use Rattle.std.specs.List.{AllPass}
use Rattle.std.proofs.lemmas.Bool.{cases_eq}
use Rattle.std.proofs.lemmas.Grind.{common_steps}
use Rattle.std.proofs.lemmas.List.{get_or-map, get_or-set_same, get_or-set_other, map-set, length-set, length-map}
use Rattle.std.proofs.Math.Seq.{map-set_same}
use Rattle.std.proofs.lemmas.List.Sums.{sum_by-set, sum_by-le, sum-map, get_or-le-sum_by}
use Rattle.density.specs.declared.volume_use.VolumeUse.{VolumeUse}
use Rattle.density.specs.Density.{target_of}
use Rattle.density.specs.Reports.{is_in_limits, total_capacity, total_used}
use Rattle.greedy_planner.specs.declared.volume.Volume.{Volume}
use Rattle.greedy_planner.specs.declared.volume.Side.TheVariants.{Low, High}
use Rattle.greedy_planner.specs.declared.volume.Totals.{Totals}
use Rattle.greedy_planner.specs.declared.volume.Turn.{Turn}
use Rattle.greedy_planner.specs.declared.volume.Step.{Step}
use Rattle.greedy_planner.specs.Volumes.{volume_at, target_in, volume_of, volumes_of, totals_of, IsFirst}
use Rattle.greedy_planner.specs.Sound.{IsSound, AreSound}
use Rattle.greedy_planner.specs.Greedy.{IsRun, IsPlanOf, IsGreedyPlan, goes_on, steps_of, step_of, steps_in, is_skip, volumes_after, both_skipped, moved, use_at}
use Rattle.greedy_planner.specs.Steps.{AllNearer, uses_of, targets_of, KeepsTargets, AllKeepTargets, uses_after, uses_after_step}
use Rattle.greedy_planner.proofs.Turns.{nowhere, off_count, off_weight, both_skipped_off, moved_off, both_skipped_map, are_two, can_take, can_give, step_gives, step_takes, sound_turn}

-- the used bytes of the volumes, and their targets
abbrev pub uses_in : List Volume → List ℕ
uses_in s = map (λ v. v.used) s

abbrev pub targets_in : Totals → List Volume → List ℕ
targets_in totals s = map (target_in totals) s

-- the first step of a run, if its first turn makes one, and the others
abbrev pub steps_at : Totals → Turn → List Volume → Bool → List Step → List Step
steps_at totals turn s b rest = cond b [] (step_of totals turn s ∷ []) ++ rest

abbrev pub after_at : Totals → Turn → List Volume → Bool → List Volume
after_at totals turn s b = cond b (both_skipped totals turn s) (moved (step_of totals turn s) s)

-- at most as many steps as volumes that aren't at their targets

pub few_at : (totals : Totals) (turn : Turn) (s : List Volume) (rest : List Step) → turn.low < length s → turn.high < length s
    → (b : Bool) → is_skip totals turn s ≡ b → length rest ≤ off_count totals (after_at totals turn s b) → length (steps_at totals turn s b rest) ≤ off_count totals s
few_at totals turn s rest low high true h few = omega (arith, both_skipped_off totals turn s low high)
few_at totals turn s rest low high false h few =
    let one : length (steps_at totals turn s false rest) ≡ length rest + 1 = omega (arith, length-append (step_of totals turn s ∷ []) rest) in
    omega (arith, moved_off totals turn s low high h)

pub few_steps : (totals : Totals) (threshold : ℕ) (s : List Volume) (turns : List Turn) → IsRun totals threshold s turns
    → length (steps_of totals s turns) ≤ off_count totals s
few_steps totals threshold s [] run = omega arith
few_steps totals threshold s (turn ∷ turns) run =
    few_at totals turn s (steps_of totals (volumes_after totals turn s) turns) run.1.inside run.2.inside (is_skip totals turn s) refl
    (few_steps totals threshold (volumes_after totals turn s) turns run.3)

-- of these there are no more than volumes
pub off_le : (totals : Totals) (v : Volume) → off_weight totals v ≤ 1
off_le totals v = elim (nat_eq v.used (target_in totals v)) as (λ b. cond b 0 1 ≤ 1) [ true ↦ omega arith | false ↦ omega arith ]

pub off_count_le : (totals : Totals) (s : List Volume) → off_count totals s ≤ length s
off_count_le totals s =
    let most : off_count totals s ≤ length s * 1 = sum_by-le (off_weight totals) 1 s (λ k d h. off_le totals (get_or s k d)) in
    omega arith

-- no step leads past a target

pub uses_at : (s : List Volume) (i : ℕ) → i < length s → slice_index (uses_in s) i ≡ (volume_at s i).used
uses_at s i h = get_or-map (λ v. v.used) s i nowhere 0 h

pub targets_at : (totals : Totals) (s : List Volume) (i : ℕ) → i < length s → slice_index (targets_in totals s) i ≡ target_in totals (volume_at s i)
targets_at totals s i h = get_or-map (target_in totals) s i nowhere 0 h

pub uses_use : (s : List Volume) (i used : ℕ) → uses_in (use_at i used s) ≡ set (uses_in s) i used
uses_use s i used = map-set (λ v. v.used) s i (record (volume_at s i) { used = used })

pub targets_use : (totals : Totals) (s : List Volume) (i used : ℕ) → targets_in totals (use_at i used s) ≡ targets_in totals s
targets_use totals s i used = map-set_same (target_in totals) s i (record (volume_at s i) { used = used }) nowhere refl

pub targets_moved : (totals : Totals) (step : Step) (s : List Volume) → targets_in totals (moved step s) ≡ targets_in totals s
targets_moved totals step s =
    targets_use totals (use_at step.from ((volume_at s step.from).used - step.bytes) s) step.to ((volume_at s step.to).used + step.bytes)
    ∙ targets_use totals s step.from ((volume_at s step.from).used - step.bytes)

pub uses_moved : (step : Step) (s : List Volume) → step.from < length s → step.to < length s → uses_in (moved step s) ≡ uses_after_step step (uses_in s)
uses_moved step s from to =
    let x = (volume_at s step.from).used - step.bytes in
    let y = (volume_at s step.to).used + step.bytes in
    let last : uses_in (moved step s) ≡ set (uses_in (use_at step.from x s)) step.to y = uses_use (use_at step.from x s) step.to y in
    let first : uses_in (use_at step.from x s) ≡ set (uses_in s) step.from x = uses_use s step.from x in
    let same_x : x ≡ slice_index (uses_in s) step.from - step.bytes = ap (λ (n : ℕ). n - step.bytes) (sym (uses_at s step.from from)) in
    let same_y : y ≡ slice_index (uses_in s) step.to + step.bytes = ap (λ (n : ℕ). n + step.bytes) (sym (uses_at s step.to to)) in
    last ∙ ap (λ (l : List ℕ). set l step.to y) (first ∙ ap (λ (n : ℕ). set (uses_in s) step.from n) same_x)
    ∙ ap (λ (n : ℕ). set (set (uses_in s) step.from (slice_index (uses_in s) step.from - step.bytes)) step.to n) same_y

pub step_keeps : (totals : Totals) (turn : Turn) (s : List Volume) → turn.low < length s → turn.high < length s → is_skip totals turn s ≡ false
    → KeepsTargets (targets_in totals s) (uses_in s) (step_of totals turn s)
step_keeps totals turn s low high h =
    let two = are_two totals turn s h in
    let take = can_take totals turn s h in
    let give = can_give totals turn s h in
    record {
      from = omega (arith, length-map s (λ (v : Volume). v.used));
      to = omega (arith, length-map s (λ (v : Volume). v.used));
      other = λ e. two (sym e);
      some = omega arith;
      gives = omega (arith, uses_at s turn.high high, targets_at totals s turn.high high, step_gives totals turn s h);
      takes = omega (arith, uses_at s turn.low low, targets_at totals s turn.low low, step_takes totals turn s h);
    }

pub keeps_at : (totals : Totals) (turn : Turn) (s : List Volume) (rest : List Step) → turn.low < length s → turn.high < length s
    → (b : Bool) → is_skip totals turn s ≡ b
    → AllKeepTargets (targets_in totals (after_at totals turn s b)) (uses_in (after_at totals turn s b)) rest
    → AllKeepTargets (targets_in totals s) (uses_in s) (steps_at totals turn s b rest)
keeps_at totals turn s rest low high true h all =
    let targets : targets_in totals (both_skipped totals turn s) ≡ targets_in totals s = both_skipped_map (target_in totals) (λ v. refl) totals turn s in
    let uses : uses_in (both_skipped totals turn s) ≡ uses_in s = both_skipped_map (λ v. v.used) (λ v. refl) totals turn s in
    let P : List ℕ → Type 0 = λ ts. AllKeepTargets ts (uses_in s) rest in
    let Q : List ℕ → Type 0 = λ us. AllKeepTargets (targets_in totals (both_skipped totals turn s)) us rest in
    subst P targets (subst Q uses all)
keeps_at totals turn s rest low high false h all =
    let step = step_of totals turn s in
    let targets : targets_in totals (moved step s) ≡ targets_in totals s = targets_moved totals step s in
    let uses : uses_in (moved step s) ≡ uses_after_step step (uses_in s) = uses_moved step s high low in
    let P : List ℕ → Type 0 = λ ts. AllKeepTargets ts (uses_after_step step (uses_in s)) rest in
    let Q : List ℕ → Type 0 = λ us. AllKeepTargets (targets_in totals (moved step s)) us rest in
    (step_keeps totals turn s low high h, subst P targets (subst Q uses all))

pub run_keeps : (totals : Totals) (threshold : ℕ) (s : List Volume) (turns : List Turn) → IsRun totals threshold s turns
    → AllKeepTargets (targets_in totals s) (uses_in s) (steps_of totals s turns)
run_keeps totals threshold s [] run = tt
run_keeps totals threshold s (turn ∷ turns) run =
    keeps_at totals turn s (steps_of totals (volumes_after totals turn s) turns) run.1.inside run.2.inside (is_skip totals turn s) refl
    (run_keeps totals threshold (volumes_after totals turn s) turns run.3)

-- the sum of the used bytes is kept

pub sum_after_step : (targets uses : List ℕ) (step : Step) → KeepsTargets targets uses step → sum (uses_after_step step uses) ≡ sum uses
sum_after_step targets uses step keeps =
    let x = slice_index uses step.from - step.bytes in
    let y = slice_index uses step.to + step.bytes in
    let from = keeps.from in
    let to = keeps.to in
    let other : step.to ≢ step.from = λ e. keeps.other (sym e) in
    let first : sum (set uses step.from x) + slice_index uses step.from ≡ sum uses + x = sum_by-set (λ n. n) uses step.from x 0 from in
    let same : slice_index (set uses step.from x) step.to ≡ slice_index uses step.to = get_or-set_other uses step.from step.to x 0 other in
    let second : sum (set (set uses step.from x) step.to y) + slice_index (set uses step.from x) step.to ≡ sum (set uses step.from x) + y =
    sum_by-set (λ n. n) (set uses step.from x) step.to y 0 (omega (arith, length-set uses step.from x)) in
    let gives = keeps.gives in
    omega arith

pub sum_after : (targets uses : List ℕ) (steps : List Step) → AllKeepTargets targets uses steps → sum (uses_after steps uses) ≡ sum uses
sum_after targets uses [] all = refl
sum_after targets uses (step ∷ steps) all = sum_after targets (uses_after_step step uses) steps all.1 ∙ sum_after_step targets uses step all.0

-- the invariants of the loop over the turns

pub sound_goes_on : (totals : Totals) (turn : Turn) (s s' : List Volume) → s' ≡ volumes_after totals turn s → AreSound totals s
    → IsFirst Low s turn.low → IsFirst High s turn.high → AreSound totals s'
sound_goes_on totals turn s s' is sound low high =
    let P : List Volume → Type 0 = λ v. AreSound totals v in
    subst P (sym is) (sound_turn totals turn s sound low.inside high.inside)

pub plan_goes_on : (totals : Totals) (threshold : ℕ) (start s s' : List Volume) (steps steps' : List Step) (turn : Turn)
    → s' ≡ volumes_after totals turn s → steps' ≡ steps ++ steps_in totals turn s
    → goes_on totals threshold s ≡ true → IsFirst Low s turn.low → IsFirst High s turn.high
    → ((turns : List Turn) → IsRun totals threshold s turns → IsPlanOf totals threshold start (steps ++ steps_of totals s turns))
    → (turns : List Turn) → IsRun totals threshold s' turns → IsPlanOf totals threshold start (steps' ++ steps_of totals s' turns)
plan_goes_on totals threshold start s s' steps steps' turn is are goes low high plan turns run =
    let R : List Volume → Type 0 = λ v. IsRun totals threshold v turns in
    let whole : IsPlanOf totals threshold start (steps ++ (steps_in totals turn s ++ steps_of totals (volumes_after totals turn s) turns)) =
    plan (turn ∷ turns) (goes, low, high, subst R is run) in
    let P : List Step → Type 0 = λ all. IsPlanOf totals threshold start all in
    let same : steps ++ (steps_in totals turn s ++ steps_of totals (volumes_after totals turn s) turns) ≡ steps' ++ steps_of totals s' turns =
    sym (append_assoc steps (steps_in totals turn s) (steps_of totals (volumes_after totals turn s) turns))
    ∙ ap (λ (l : List Step). l ++ steps_of totals (volumes_after totals turn s) turns) (sym are)
    ∙ ap (λ (v : List Volume). steps' ++ steps_of totals v turns) (sym is) in
    subst P same whole

-- the volumes of a report are within the limits

pub sound_row : (rows : List VolumeUse) (row : VolumeUse) → is_in_limits row ≡ true → row.capacity ≤ total_capacity rows → IsSound (totals_of rows) (volume_of row)
sound_row rows row h part = record {
  some = grind (arith, common_steps);
  capacity = grind (arith, common_steps);
  part = part;
  used = grind (arith, common_steps);
}

pub sound_rows : (rows : List VolumeUse) → AllPass is_in_limits rows → total_capacity rows ≤ 2 ^ 60 → total_used rows ≤ 2 ^ 60
    → AreSound (totals_of rows) (volumes_of rows)
sound_rows rows all capacity used = record {
  each = λ k h.
      let none : VolumeUse = record { capacity = 0; used = 0; replicas = 0 } in
      let inside : k < length rows = omega (arith, length-map rows volume_of) in
      let is : volume_at (volumes_of rows) k ≡ volume_of (get_or rows k none) = get_or-map volume_of rows k none nowhere inside in
      let P : Volume → Type 0 = λ v. IsSound (totals_of rows) v in
      subst P (sym is) (sound_row rows (get_or rows k none) (all k none inside) (get_or-le-sum_by (λ row. row.capacity) rows k none inside));
  capacity = capacity;
  used = used;
}

pub sound_start : (rows : List VolumeUse) (capacity used : ℕ) (s : List Volume) → AllPass is_in_limits rows
    → capacity ≡ total_capacity rows → used ≡ total_used rows → capacity ≤ 2 ^ 60 → used ≤ 2 ^ 60 → s ≡ volumes_of rows
    → AreSound (record { capacity = capacity; used = used }) s
sound_start rows capacity used s all capacity_is used_is capacity_limit used_limit s_is =
    let P : Totals → Type 0 = λ totals. AreSound totals (volumes_of rows) in
    let Q : List Volume → Type 0 = λ v. AreSound (record { capacity = capacity; used = used }) v in
    let totals : totals_of rows ≡ record { capacity = capacity; used = used } = cc in
    subst Q (sym s_is) (subst P totals (sound_rows rows all (omega arith) (omega arith)))

-- what a plan over a report keeps

pub uses_of_rows : (rows : List VolumeUse) → uses_in (volumes_of rows) ≡ uses_of rows
uses_of_rows [] = refl
uses_of_rows (row ∷ rows) = ap (λ (l : List ℕ). row.used ∷ l) (uses_of_rows rows)

pub targets_of_volumes : (totals : Totals) (rows : List VolumeUse)
    → targets_in totals (volumes_of rows) ≡ map (λ row. target_of totals.capacity totals.used row.capacity) rows
targets_of_volumes totals [] = refl
targets_of_volumes totals (row ∷ rows) = ap (λ (l : List ℕ). target_of totals.capacity totals.used row.capacity ∷ l) (targets_of_volumes totals rows)

pub plan_few : (rows : List VolumeUse) (threshold : ℕ) (steps : List Step) → IsGreedyPlan rows threshold steps → length steps ≤ length rows
plan_few rows threshold steps plan =
    let totals = totals_of rows in
    let few = few_steps totals threshold (volumes_of rows) plan.turns plan.run in
    let most = off_count_le totals (volumes_of rows) in
    omega (arith, ap (length {A = Step}) plan.steps_are, few, most, length-map rows volume_of)

pub plan_targets : (rows : List VolumeUse) (threshold : ℕ) (steps : List Step) → IsGreedyPlan rows threshold steps
    → AllKeepTargets (targets_of rows) (uses_of rows) steps
plan_targets rows threshold steps plan =
    let totals = totals_of rows in
    let P : List ℕ → Type 0 = λ ts. AllKeepTargets ts (uses_in (volumes_of rows)) (steps_of totals (volumes_of rows) plan.turns) in
    let Q : List ℕ → Type 0 = λ us. AllKeepTargets (targets_of rows) us (steps_of totals (volumes_of rows) plan.turns) in
    let R : List Step → Type 0 = λ all. AllKeepTargets (targets_of rows) (uses_of rows) all in
    subst R (sym plan.steps_are) (subst Q (uses_of_rows rows) (subst P (targets_of_volumes totals rows)
    (run_keeps totals threshold (volumes_of rows) plan.turns plan.run)))

pub plan_kept : (rows : List VolumeUse) (threshold : ℕ) (steps : List Step) → IsGreedyPlan rows threshold steps
    → sum (uses_after steps (uses_of rows)) ≡ total_used rows
plan_kept rows threshold steps plan =
    sum_after (targets_of rows) (uses_of rows) steps (plan_targets rows threshold steps plan) ∙ sum-map (λ row. row.used) rows

-- no volume comes further from its target

pub nearer_step : (targets uses : List ℕ) (step : Step) → KeepsTargets targets uses step → AllNearer targets uses (uses_after_step step uses)
nearer_step targets uses step keeps k h =
    let x = slice_index uses step.from - step.bytes in
    let y = slice_index uses step.to + step.bytes in
    let to_first : step.to < length (set uses step.from x) = omega (arith, length-set uses step.from x, keeps.to) in
    let gives = keeps.gives in
    let takes = keeps.takes in
    elim (cases_eq k step.to) [
      | inl e ↦
          let now : slice_index (uses_after_step step uses) k ≡ y =
          ap (λ (i : ℕ). slice_index (uses_after_step step uses) i) e ∙ get_or-set_same (set uses step.from x) step.to y 0 to_first in
          let was : slice_index uses k ≡ slice_index uses step.to = ap (λ (i : ℕ). slice_index uses i) e in
          let at : slice_index targets k ≡ slice_index targets step.to = ap (λ (i : ℕ). slice_index targets i) e in
          omega arith
      | inr not_to ↦
          let same : slice_index (uses_after_step step uses) k ≡ slice_index (set uses step.from x) k =
          get_or-set_other (set uses step.from x) step.to k y 0 not_to in
          elim (cases_eq k step.from) [
            | inl e ↦
                let now : slice_index (set uses step.from x) k ≡ x =
                ap (λ (i : ℕ). slice_index (set uses step.from x) i) e ∙ get_or-set_same uses step.from x 0 keeps.from in
                let was : slice_index uses k ≡ slice_index uses step.from = ap (λ (i : ℕ). slice_index uses i) e in
                let at : slice_index targets k ≡ slice_index targets step.from = ap (λ (i : ℕ). slice_index targets i) e in
                omega arith
            | inr not_from ↦
                let now : slice_index (set uses step.from x) k ≡ slice_index uses k = get_or-set_other uses step.from k x 0 not_from in
                omega arith
          ]
    ]

pub uses_length : (step : Step) (uses : List ℕ) → length (uses_after_step step uses) ≡ length uses
uses_length step uses =
    let x = slice_index uses step.from - step.bytes in
    length-set (set uses step.from x) step.to (slice_index uses step.to + step.bytes) ∙ length-set uses step.from x

pub nearer_after : (targets uses : List ℕ) (steps : List Step) → AllKeepTargets targets uses steps → AllNearer targets uses (uses_after steps uses)
nearer_after targets uses [] all k h = omega arith
nearer_after targets uses (step ∷ steps) all k h =
    let first = nearer_step targets uses step all.0 k h in
    let rest = nearer_after targets (uses_after_step step uses) steps all.1 k (omega (arith, uses_length step uses)) in
    omega (arith, first, rest)

pub plan_nearer : (rows : List VolumeUse) (threshold : ℕ) (steps : List Step) → IsGreedyPlan rows threshold steps
    → AllNearer (targets_of rows) (uses_of rows) (uses_after steps (uses_of rows))
plan_nearer rows threshold steps plan = nearer_after (targets_of rows) (uses_of rows) steps (plan_targets rows threshold steps plan)
