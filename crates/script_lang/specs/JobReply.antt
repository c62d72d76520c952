-- What a job answers at the end of its phase
use Rattle.std.specs.Prelude.{ℕ, List, codes}
use Rattle.script_lang.specs.ReplyWords.{and_number, and_text}
use Rattle.script_lang.specs.PlanRefusal.{plan_refusal_text}
use Rattle.script_lang.specs.declared.reply.job_reply.JobReply.{JobReply}
use Rattle.script_lang.specs.declared.reply.job_reply.JobReply.TheVariants.{PlanDone, PlanCancelled, PlanRefused, PlanMemory, DirScanned, DirScanMemory, VolScanned, VolScanMemory, VolScanNoVolume}

-- a text and three numbers
abbrev pub and_three : List ℕ → ℕ → ℕ → ℕ → List ℕ
and_three text a b c = and_number (and_number (and_number text a) b) c

-- what it prints, without its line feed
abbrev pub job_reply_text : JobReply → List ℕ
job_reply_text (PlanDone blocks bytes errors) = and_three (codes "execute PLAN_DONE") blocks bytes errors
job_reply_text (PlanCancelled blocks bytes errors) = and_three (codes "execute PLAN_CANCELLED") blocks bytes errors
job_reply_text (PlanRefused refusal) = and_text (codes "execute") (plan_refusal_text refusal)
job_reply_text PlanMemory = codes "execute memory"
job_reply_text (DirScanned lost found removed kept failed) = and_number (and_number (and_three (codes "dirscan") lost found removed) kept) failed
job_reply_text DirScanMemory = codes "dirscan memory"
job_reply_text (VolScanned whole bad changed failed) = and_number (and_three (codes "volscan") whole bad changed) failed
job_reply_text VolScanMemory = codes "volscan memory"
job_reply_text VolScanNoVolume = codes "volscan novolume"
