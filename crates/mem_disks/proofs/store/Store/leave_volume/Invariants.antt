use Rattle.std.proofs.Common.{◌≡◌, false}
use Rattle.mem_disks.specs.History.{fork_after}
use Rattle.mem_disks.specs.Images.{left_of}
use Rattle.mem_disks.proofs.Remains.{Taken}
use Rattle.mem_disks.proofs.store.Store.leave_volume.Given as goal

abbrev pub invariant-loop-path : goal.invariant-loop-path
invariant-loop-path l =
    Taken (left_of (fork_after l.fn.self.records.items).now l.fn.fill) l.fn.vol l.initial.path-iterator l.path-iterator (fork_after l.image.records.items).now
    × (l.fn.image.is_open ≡ false → l.image.is_open ≡ false)
    × (l.image.next_number ≡ l.fn.image.next_number)
    × (l.image.volume_count ≡ l.fn.image.volume_count)
