use Rattle.std.proofs.Common.{refl}
use Rattle.mem_disks.specs.HistoryLaws.{same_time}
use Rattle.mem_disks.proofs.disks.MemDisksPoolDisks.create.Goals as goal

pub returns-in_err-draft_path-clause-time : goal.returns-in_err-draft_path-clause-time
returns-in_err-draft_path-clause-time c = same_time _ _ _ _ refl (λ is. is)

pub returns-then-number-clause-time : goal.returns-then-number-clause-time
returns-then-number-clause-time c = same_time _ _ _ _ refl (λ is. is)

pub returns-in_err-path-clause-time : goal.returns-in_err-path-clause-time
returns-in_err-path-clause-time c = same_time _ _ _ _ refl (λ is. is)
