use Rattle.std.proofs.Common.{◌∙◌, ap₂}
use Rattle.clap.specs.Words.{with_rule}
use Rattle.plan_tool.proofs.command.planner_command.Goals as goal

pub returns : goal.returns
returns c =
    let first = c.in_ok-first.ensures.shape c.required_option.ensures.local ∙ ap₂ with_rule c.empty_command.ensures c.required_option.ensures.rule in
    let second = c.in_ok-second.ensures.shape c.required_option-2.ensures.local ∙ ap₂ with_rule first c.required_option-2.ensures.rule in
    let third = c.in_ok-third.ensures.shape c.default_option.ensures.local ∙ ap₂ with_rule second c.default_option.ensures.rule in
    let fourth = c.in_ok-fourth.ensures.shape c.default_option-2.ensures.local ∙ ap₂ with_rule third c.default_option-2.ensures.rule in
    let fifth = c.in_ok-fifth.ensures.shape c.default_option-3.ensures.local ∙ ap₂ with_rule fourth c.default_option-3.ensures.rule in
    c.in_ok-command.ensures.shape c.default_option-4.ensures.local ∙ ap₂ with_rule fifth c.default_option-4.ensures.rule
