use Rattle.std.proofs.Common.{◌≡◌, ◌≤◌, ◌∙◌, ap, Some}
use Rattle.serde_json.specs.Data.{depth}
use Rattle.serde_json.specs.Written.{compact_text, has_float}
use Rattle.serde_json.specs.View.{view}
use Rattle.plan_json.specs.declared.fault.PlanMember.TheVariants.{Text}
use Rattle.plan_json.specs.Plans.{or_malformed, ◌>>=◌, plan_of}
use Rattle.plan_json.specs.Written.{plan_value}
use Rattle.plan_json.proofs.ReadingLemmas.{reading-utf8}
use Rattle.plan_json.proofs.WrittenLemmas.{has_float-plan_value, depth-plan_value, plan_of-plan_value}
use Rattle.plan_json.proofs.write.write_plan.Goals as goal

pub returns-clause-text : goal.returns-clause-text
returns-clause-text c =
    let is : view c.in_ok-value.value ≡ plan_value c.args.plan.now = c.in_ok-value.ensures in
    c.in_ok-bytes.ensures.text (ap has_float is ∙ has_float-plan_value c.args.plan.now) ∙ ap compact_text is

pub returns-clause-reads_back : goal.returns-clause-reads_back
returns-clause-reads_back c =
    let plan = c.args.plan.now in
    let is : view c.in_ok-value.value ≡ plan_value plan = c.in_ok-value.ensures in
    let low : depth (view c.in_ok-value.value) ≤ 127 = rw is (depth-plan_value plan) in
    ap (λ o. or_malformed Text o >>= plan_of)
    (reading-utf8 _ c.in_ok-bytes.ensures.utf8 ∙ c.in_ok-bytes.ensures.reads_back low ∙ ap Some is)
    ∙ plan_of-plan_value plan c.requires
