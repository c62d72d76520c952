use Rattle.std.proofs.Common.{◌≤◌, false, arith}
use Rattle.mem_disks.specs.History.{fork_after}
use Rattle.mem_disks.specs.HistoryLaws.{history_within, now_told}
use Rattle.mem_disks.specs.Images.{left_of}
use Rattle.mem_disks.proofs.Remains.{sees, all_volumes}
use Rattle.mem_disks.proofs.store.Store.leave_files.Goals as goal

pub returns-clause-left : goal.returns-clause-left
returns-clause-left c =
    let store = c.args.self.now in
    let world = (fork_after store.records.items).now in
    let image = (fork_after c.loop-index.image.records.items).now in
    all_volumes store.volume_count world c.args.fill.now image (history_within false store.records.items store.volume_count store.placed world (now_told false (fork_after store.records.items)))
    (sees (left_of world c.args.fill.now) _ image c.loop-index.invariant.0 (λ v path. (1 ≤ v) × (v ≤ store.volume_count)) (λ v path seen. (seen.0, omega (arith, seen.1, c.loop-index-test.false))))
