use Rattle.std.proofs.Common.{◌≡◌, ◌≤◌, false}
use Rattle.mem_disks.specs.History.{fork_after}
use Rattle.mem_disks.specs.Images.{left_of, TakesOver}
use Rattle.mem_disks.proofs.store.Store.leave_files.Given as goal

abbrev pub invariant-loop-index : goal.invariant-loop-index
invariant-loop-index l =
    TakesOver (left_of (fork_after l.fn.self.records.items).now l.fn.fill) (λ v path. (1 ≤ v) × (v ≤ l.index)) (fork_after l.image.records.items).now
    × (l.image.is_open ≡ false)
    × (l.image.next_number ≡ 0)
    × (l.image.volume_count ≡ l.fn.self.volume_count)
