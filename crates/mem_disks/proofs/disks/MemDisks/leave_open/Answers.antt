use Rattle.std.proofs.Common.{◌≡◌, ℕ, ◌-◌, ◌^◌, ◌<◌, Result, Ok, Err, OnOk, OnErr, arith}
use Rattle.disk_model.specs.Causes.{Rose}
use Rattle.mem_disks.proofs.disks.MemDisks.leave_open.Goals as goal

-- a call that wasn't in want of memory answered Ok
was_ok : {E : Type 0} (result : Result (Unit {0}) E) (P : Type 0) (before now : ℕ) → OnOk result P → before < 2 ^ 64 - 1
    → OnErr result (Rose before now) → now ≡ before → P
was_ok (Ok x) P before now holds low rose same = holds
was_ok (Err e) P before now holds low rose same = absurd (omega (arith, rose, same, low))

pub returns-clause-opens : goal.returns-clause-opens
returns-clause-opens c closed low same =
    was_ok c.leave_open-left.result _ c.args.self.now.lacks c.more_if_err-self.result (c.leave_open-left.ensures.first closed) low c.more_if_err-self.ensures.rose same
