use Rattle.std.proofs.Common.{◌≡◌, None, map, rules, string_bytes}
use Rattle.plan_json.specs.Checks.{strange_volume}
use Rattle.plan_json.proofs.CheckLemmas.{IsOn-from_none}
use Rattle.plan_json.proofs.check.check_plan.Goals as goal

pub returns-clause-on_node : goal.returns-clause-on_node
returns-clause-on_node c =
    let none : strange_volume (map string_bytes c.args.volumes.now) c.args.plan.steps ≡ None = search rules in
    IsOn-from_none _ _ none
