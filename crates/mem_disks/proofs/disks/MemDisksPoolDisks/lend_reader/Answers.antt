use Rattle.std.proofs.Common.{refl}
use Rattle.std.proofs.lemmas.Bool.{both_ways}
use Rattle.mem_disks.specs.HistoryLaws.{same_time}
use Rattle.mem_disks.proofs.disks.MemDisksPoolDisks.lend_reader.Goals as goal

pub returns-then-number-clause-time : goal.returns-then-number-clause-time
returns-then-number-clause-time c = same_time _ _ _ _ refl (λ is. is)

pub returns-clause-time : goal.returns-clause-time
returns-clause-time c = same_time _ _ _ _ c.answer_with_number.ensures.records (λ is. absurd (both_ways _ c.answer_with_number.ensures.is_open is))

pub returns-in_err-bytes-in-File-clause-time : goal.returns-in_err-bytes-in-File-clause-time
returns-in_err-bytes-in-File-clause-time c = same_time _ _ _ _ refl (λ is. is)
