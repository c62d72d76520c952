use Rattle.std.proofs.Common.{ap, List, ℕ, string_bytes, refl}
use Rattle.disk_model.specs.Worlds.{draft_at, published}
use Rattle.mem_disks.specs.HistoryLaws.{stands_as, opens_as, same_time}
use Rattle.mem_disks.proofs.disks.MemDisks.leave_published.Goals as goal

pub returns-in-Ok-clause-worlds : goal.returns-in-Ok-clause-worlds
returns-in-Ok-clause-worlds c =
    stands_as (λ world. ap (λ (q : List ℕ). published (draft_at c.args.sealed.number c.args.sealed.vol (string_bytes c.args.sealed.path)) c.args.sealed.bytes.items q world) c.in-Ok.ensures.ok) c.leave_open.ensures.worlds

pub returns-in-Ok-clause-opens : goal.returns-in-Ok-clause-opens
returns-in-Ok-clause-opens c closed low same =
    opens_as (λ world. ap (λ (q : List ℕ). published (draft_at c.args.sealed.number c.args.sealed.vol (string_bytes c.args.sealed.path)) c.args.sealed.bytes.items q world) c.in-Ok.ensures.ok) (c.leave_open.ensures.opens closed low same)

pub returns-in-Err-clause-time : goal.returns-in-Err-clause-time
returns-in-Err-clause-time c = rw c.lack.ensures.store (same_time _ _ _ _ refl (λ is. is))
