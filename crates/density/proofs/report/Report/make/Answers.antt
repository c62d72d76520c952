use Rattle.std.proofs.Common.{◌∙◌, sym, arith, ◌≡◌, length, ◌≤◌, subst, List}
use Rattle.std.specs.List.{AllPass}
use Rattle.std.proofs.lemmas.Grind.{common_steps}
use Rattle.density.specs.declared.volume_use.VolumeUse.{VolumeUse}
use Rattle.density.specs.Reports.{is_in_limits}
use Rattle.density.proofs.Totals.{all_pass, capacity_limit, used_limit}
use Rattle.density.proofs.report.Report.make.Goals as goal

pub sum_of_capacities-requires : goal.sum_of_capacities-requires
sum_of_capacities-requires c =
    let all : AllPass is_in_limits c.args.rows.now = all_pass is_in_limits c.args.rows.now (sym c.first_out_of_range.ensures ∙ c.in_default.is) in
    let few : length c.args.rows.now ≤ 64 = omega arith in
    omega (arith, capacity_limit c.args.rows.now all few)

pub sum_of_uses-requires : goal.sum_of_uses-requires
sum_of_uses-requires c =
    let all : AllPass is_in_limits c.args.rows.now = all_pass is_in_limits c.args.rows.now (sym c.first_out_of_range.ensures ∙ c.in_default.is) in
    let few : length c.args.rows.now ≤ 64 = omega arith in
    omega (arith, used_limit c.args.rows.now all few)

pub invariant_of-result : goal.invariant_of-result
invariant_of-result c =
    let all : AllPass is_in_limits c.args.rows.now = all_pass is_in_limits c.args.rows.now (sym c.first_out_of_range.ensures ∙ c.in_default.is) in
    let same : c.in-Ok.copied.items ≡ c.args.rows.now = c.in-Ok.ensures.items in
    let P : List VolumeUse → Type 0 = λ rows. AllPass is_in_limits rows in
    (subst P (sym same) all, rw same (grind (arith, common_steps)), rw same (omega arith), rw same c.sum_of_capacities.ensures, rw same c.sum_of_uses.ensures)
