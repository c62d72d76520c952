-- A member of a plan, or its text as a whole
use Rattle.std.specs.Prelude.{ℕ, List, codes}
use Rattle.script_lang.specs.declared.reply.plan_member.PlanMember.{PlanMember}
use Rattle.script_lang.specs.declared.reply.plan_member.PlanMember.TheVariants.{Text, NodeUuid, TimeStamp, VolumeSetPlans, SourceVolume, DestinationVolume, BytesToMove, Bandwidth, TolerancePercent, MaxDiskErrors}

-- how it is printed
abbrev pub plan_member_text : PlanMember → List ℕ
plan_member_text Text = codes "text"
plan_member_text NodeUuid = codes "nodeUUID"
plan_member_text TimeStamp = codes "timeStamp"
plan_member_text VolumeSetPlans = codes "volumeSetPlans"
plan_member_text SourceVolume = codes "sourceVolume"
plan_member_text DestinationVolume = codes "destinationVolume"
plan_member_text BytesToMove = codes "bytesToMove"
plan_member_text Bandwidth = codes "bandwidth"
plan_member_text TolerancePercent = codes "tolerancePercent"
plan_member_text MaxDiskErrors = codes "maxDiskErrors"
