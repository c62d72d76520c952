use Rattle.std.proofs.Common.{◌≡◌, ◌∙◌, ap, map}
use Rattle.std.specs.Prelude.{string_bytes}
use Rattle.clap.specs.Words.{App, app_of, is_simple}
use Rattle.clap.specs.Simple.{matches_of}
use Rattle.plan_tool.specs.Command.{planner}
use Rattle.plan_tool.proofs.command.matches_in.Goals as goal

pub returns-in-Ok-try_get_matches_from-clause-rows : goal.returns-in-Ok-try_get_matches_from-clause-rows
returns-in-Ok-try_get_matches_from-clause-rows c =
    let is : app_of c.in-Ok.command ≡ planner = c.in-Ok.ensures in
    let found = c.in-Ok-try_get_matches_from.ensures.matches (ap is_simple is) in
    found.0 ∙ ap (λ (a : App). matches_of a (map string_bytes c.args.words.now)) is
