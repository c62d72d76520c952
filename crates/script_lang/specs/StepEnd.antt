-- How a step of the submitted plan ended
use Rattle.std.specs.Prelude.{ℕ, List, codes}
use Rattle.script_lang.specs.declared.reply.step_end.StepEnd.{StepEnd}
use Rattle.script_lang.specs.declared.reply.step_end.StepEnd.TheVariants.{Open, Done, Cancelled, ErrorLimit, NoBlock}

-- how it is printed
abbrev pub step_end_text : StepEnd → List ℕ
step_end_text Open = codes "open"
step_end_text Done = codes "done"
step_end_text Cancelled = codes "cancelled"
step_end_text ErrorLimit = codes "errorlimit"
step_end_text NoBlock = codes "noblock"
