use Rattle.std.proofs.Common.{◌≡◌, ◌++◌, take, map, codes}
use Rattle.script_lang.specs.PlanRefusal.{in_one_line}
use Rattle.script_lang.proofs.reply.plan_refusal.write_invalid_volume.Given as goal

abbrev pub invariant-loop-b : goal.invariant-loop-b
invariant-loop-b l = l.line.items ≡ codes "invalidvolume " ++ map in_one_line (take l.b-index l.uuid)
