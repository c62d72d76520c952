-- What the limits of the rows say of their totals.
use Rattle.std.proofs.Common.{◌≡◌, ℕ, ◌^◌, ◌*◌, ◌≤◌, ◌<◌, ◌∙◌, sym, List, length, get_or, arith, true, not, None, position, Bool, [], ◌∷◌, zero, suc, ◌+◌}
use Rattle.std.specs.List.{AllPass, position_from}
use Rattle.std.proofs.lemmas.List.Sums.{sum_by-le}
use Rattle.std.proofs.lemmas.Iterator.Adapters.{position_from-zero}
use Rattle.std.proofs.lemmas.Grind.{common_steps}
use Rattle.density.specs.declared.volume_use.VolumeUse.{VolumeUse}
use Rattle.density.specs.Reports.{is_in_limits, total_capacity, total_used}

-- a row in the limits
pub capacity_in_limits : (row : VolumeUse) → is_in_limits row ≡ true → (1 ≤ row.capacity) × (row.capacity ≤ 2 ^ 54)
capacity_in_limits row h = (grind (arith, common_steps), grind (arith, common_steps))

pub used_in_limits : (row : VolumeUse) → is_in_limits row ≡ true → row.used ≤ 2 ^ 54
used_in_limits row h = grind (arith, common_steps)

pub capacity_limit : (rows : List VolumeUse) → AllPass is_in_limits rows → length rows ≤ 64 → total_capacity rows ≤ 2 ^ 60
capacity_limit rows all few =
    let most : total_capacity rows ≤ length rows * 2 ^ 54 = sum_by-le (λ row. row.capacity) (2 ^ 54) rows (λ k d h. (capacity_in_limits (get_or rows k d) (all k d h)).1) in
    omega arith

pub used_limit : (rows : List VolumeUse) → AllPass is_in_limits rows → length rows ≤ 64 → total_used rows ≤ 2 ^ 60
used_limit rows all few =
    let most : total_used rows ≤ length rows * 2 ^ 54 = sum_by-le (λ row. row.used) (2 ^ 54) rows (λ k d h. used_in_limits (get_or rows k d) (all k d h)) in
    omega arith

-- where no row fails, all pass
pub all_pass_from : (p : VolumeUse → Bool) (i : ℕ) (rows : List VolumeUse) → position_from (λ row. not (p row)) i rows ≡ None
    → (k : ℕ) (d : VolumeUse) → k < length rows → p (get_or rows k d) ≡ true
all_pass_from p i [] none k d h = absurd (omega arith)
all_pass_from p i (row ∷ rows) none zero d h = grind (arith, common_steps)
all_pass_from p i (row ∷ rows) none (suc k) d h =
    let rest : position_from (λ r. not (p r)) (i + 1) rows ≡ None = grind (arith, common_steps) in
    all_pass_from p (i + 1) rows rest k d (omega arith)

pub all_pass : (p : VolumeUse → Bool) (rows : List VolumeUse) → position (λ row. not (p row)) rows ≡ None → AllPass p rows
all_pass p rows none = all_pass_from p 0 rows (sym (position_from-zero (λ row. not (p row)) rows) ∙ none)
