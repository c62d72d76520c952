-- Why a plan isn't submitted
use Rattle.std.specs.Prelude.{ℕ, ◌==◌, if◌then◌else◌, List, map, codes}
use Rattle.script_lang.specs.ReplyWords.{and_number, and_text}
use Rattle.script_lang.specs.PlanMember.{plan_member_text}
use Rattle.script_lang.specs.declared.reply.plan_refusal.PlanRefusal.{PlanRefusal}
use Rattle.script_lang.specs.declared.reply.plan_refusal.PlanRefusal.TheVariants.{InProgress, InvalidVersion, HashMismatch, Malformed, OldPlan, NodeMismatch, InvalidVolume, InvalidMove}

-- a byte as it is printed in one line: `?` for a line feed
abbrev pub in_one_line : ℕ → ℕ
in_one_line b = if b == 10 then 63 else b

-- how it is printed
abbrev pub plan_refusal_text : PlanRefusal → List ℕ
plan_refusal_text InProgress = codes "inprogress"
plan_refusal_text (InvalidVersion version) = and_number (codes "invalidversion") version
plan_refusal_text (HashMismatch want have) = and_text (and_text (codes "hashmismatch") want) have
plan_refusal_text (Malformed member) = and_text (codes "malformed") (plan_member_text member)
plan_refusal_text (OldPlan age) = and_number (codes "oldplan") age
plan_refusal_text NodeMismatch = codes "nodemismatch"
plan_refusal_text (InvalidVolume uuid) = and_text (codes "invalidvolume") (map in_one_line uuid)
plan_refusal_text (InvalidMove step) = and_number (codes "invalidmove") step
