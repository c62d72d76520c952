use Rattle.std.proofs.Common.{◌∙◌, inl, inr, map}
use Rattle.std.specs.Prelude.{string_bytes}
use Rattle.clap.specs.Words.{found_of}
use Rattle.clap.specs.Walk.{rows_of}
use Rattle.plan_tool.proofs.Refusing.{options_refused, options_taken}
use Rattle.plan_tool.proofs.command.read_options.Goals as goal

pub returns-in-Err : goal.returns-in-Err
returns-in-Err c = options_refused (map string_bytes c.args.words.now) c.in-Err.fault c.in-Err.ensures.refused

pub returns : goal.returns
returns c =
    elim c.options_in.ensures [
      | inl e ↦ inl e
      | inr e ↦ inr (e ∙ options_taken (map string_bytes c.args.words.now) (rows_of (found_of c.in-Ok.matches)) c.in-Ok.ensures.taken c.in-Ok.ensures.rows)
    ]
