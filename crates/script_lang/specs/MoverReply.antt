-- What is answered to a step of the plan's job
use Rattle.std.specs.Prelude.{ℕ, List, codes}
use Rattle.script_lang.specs.ReplyWords.{and_number, and_text}
use Rattle.script_lang.specs.Skip.{skip_text}
use Rattle.meta_file.specs.Texts.{verdict_text}
use Rattle.script_lang.specs.declared.reply.mover_reply.MoverReply.{MoverReply}
use Rattle.script_lang.specs.declared.reply.mover_reply.MoverReply.TheVariants.{Idle, StepDone, StepErrorLimit, StepNoBlock, Task, Moving, Skipped, NoneIn, NoBlock, Failed, Worn, Memory, Copied, Bad, Sealed, Moved, Dropped, Counted, Stale, Swept, Nothing, SweepFailed, Rest}

-- what it prints, without its line feed
abbrev pub mover_reply_text : MoverReply → List ℕ
mover_reply_text Idle = codes "mover idle"
mover_reply_text (StepDone step) = and_text (and_number (codes "mover stepend") step) (codes "done")
mover_reply_text (StepErrorLimit step errors) = and_text (and_number (codes "mover stepend") step) (and_number (codes "errorlimit") errors)
mover_reply_text (StepNoBlock step) = and_text (and_number (codes "mover stepend") step) (codes "noblock")
mover_reply_text (Task step) = and_number (codes "mover task") step
mover_reply_text (Moving id) = and_number (codes "mover moving") id
mover_reply_text (Skipped id why) = and_text (and_number (codes "mover skipped") id) (skip_text why)
mover_reply_text (NoneIn pool) = and_number (codes "mover nonein") pool
mover_reply_text (NoBlock step) = and_number (codes "mover noblock") step
mover_reply_text (Failed id) = and_number (codes "mover failed") id
mover_reply_text Worn = codes "mover worn"
mover_reply_text Memory = codes "mover memory"
mover_reply_text (Copied id total) = and_number (and_number (codes "mover copied") id) total
mover_reply_text (Bad id verdict) = and_text (and_number (codes "mover bad") id) (verdict_text verdict)
mover_reply_text (Sealed id) = and_number (codes "mover sealed") id
mover_reply_text (Moved id bytes) = and_number (and_number (codes "mover moved") id) bytes
mover_reply_text (Dropped id) = and_number (codes "mover dropped") id
mover_reply_text (Counted step) = and_number (codes "mover counted") step
mover_reply_text Stale = codes "mover stale"
mover_reply_text Swept = codes "mover swept"
mover_reply_text Nothing = codes "mover nothing"
mover_reply_text SweepFailed = codes "mover sweepfailed"
mover_reply_text (Rest until) = and_number (codes "mover rest") until
