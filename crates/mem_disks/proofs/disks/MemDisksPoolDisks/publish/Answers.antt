use Rattle.std.proofs.Common.{refl, string_bytes, Some}
use Rattle.disk_model.specs.Worlds.{draft_at}
use Rattle.mem_disks.specs.History.{fork_after, told}
use Rattle.mem_disks.specs.HistoryLaws.{same_time, now_told, history_within}
use Rattle.mem_disks.proofs.Within.{draft_within}
use Rattle.mem_disks.proofs.disks.MemDisksPoolDisks.publish.Goals as goal

pub leave_published-requires-clause-low : goal.leave_published-requires-clause-low
leave_published-requires-clause-low c =
    let store = c.args.self.now.store in
    (draft_within (Some (told store.is_open store.records.items)) (fork_after store.records.items).now store.volume_count (draft_at c.args.sealed.number c.args.sealed.vol (string_bytes c.args.sealed.path))
    (now_told store.is_open (fork_after store.records.items)) (history_within store.is_open store.records.items store.volume_count store.placed) c.requires.stands).0

pub leave_published-requires-clause-high : goal.leave_published-requires-clause-high
leave_published-requires-clause-high c =
    let store = c.args.self.now.store in
    (draft_within (Some (told store.is_open store.records.items)) (fork_after store.records.items).now store.volume_count (draft_at c.args.sealed.number c.args.sealed.vol (string_bytes c.args.sealed.path))
    (now_told store.is_open (fork_after store.records.items)) (history_within store.is_open store.records.items store.volume_count store.placed) c.requires.stands).1

pub returns-in_default-clause-time : goal.returns-in_default-clause-time
returns-in_default-clause-time c = rw c.lack.ensures.store (same_time _ _ _ _ refl (λ is. is))

pub carry_out-requires-clause-placed : goal.carry_out-requires-clause-placed
carry_out-requires-clause-placed c =
    let store = c.args.self.now.store in
    draft_within (Some (told store.is_open store.records.items)) (fork_after store.records.items).now store.volume_count (draft_at c.args.sealed.number c.args.sealed.vol (string_bytes c.args.sealed.path))
    (now_told store.is_open (fork_after store.records.items)) (history_within store.is_open store.records.items store.volume_count store.placed) c.requires.stands
