use Rattle.std.proofs.Common.{refl, true, false}
use Rattle.mem_disks.specs.HistoryLaws.{opens_each, opens_time}
use Rattle.mem_disks.specs.declared.history.Recorded.{Recorded}
use Rattle.mem_disks.proofs.Follows.{numbered_more, placed_more, drafts_open, files_open, reads_open}
use Rattle.mem_disks.proofs.store.Store.leave_open.Goals as goal

pub invariant_of-self-2-clause-numbered : goal.invariant_of-self-2-clause-numbered
invariant_of-self-2-clause-numbered c =
    let one : Recorded = record { change = c.args.change; done = false } in
    numbered_more c.args.self.now.records.items c.push.new.self.items one c.args.self.now.next_number c.args.next_number c.in_ok-push.ensures.items c.requires.later c.requires.numbered c.args.self.now.numbered

pub invariant_of-self-2-clause-placed : goal.invariant_of-self-2-clause-placed
invariant_of-self-2-clause-placed c =
    let one : Recorded = record { change = c.args.change; done = false } in
    placed_more c.args.self.now.records.items c.push.new.self.items one c.args.self.now.volume_count c.in_ok-push.ensures.items c.requires.placed c.args.self.now.placed

pub invariant_of-self-2-clause-drafts : goal.invariant_of-self-2-clause-drafts
invariant_of-self-2-clause-drafts c =
    let one : Recorded = record { change = c.args.change; done = false } in
    drafts_open c.args.self.now.volume_count c.args.self.now.records.items c.push.new.self.items one c.args.self.now.shelves.items c.in_ok-push.ensures.items refl c.args.self.now.reads c.args.self.now.drafts

pub invariant_of-self-2-clause-files : goal.invariant_of-self-2-clause-files
invariant_of-self-2-clause-files c =
    let one : Recorded = record { change = c.args.change; done = false } in
    files_open c.args.self.now.volume_count c.args.self.now.records.items c.push.new.self.items one c.args.self.now.shelves.items c.in_ok-push.ensures.items refl c.args.self.now.reads c.args.self.now.files

pub invariant_of-self-2-clause-reads : goal.invariant_of-self-2-clause-reads
invariant_of-self-2-clause-reads c =
    let one : Recorded = record { change = c.args.change; done = false } in
    reads_open c.args.self.now.volume_count c.args.self.now.records.items c.push.new.self.items one c.args.self.now.shelves.items c.in_ok-push.ensures.items refl c.args.self.now.reads

pub returns-clause-worlds : goal.returns-clause-worlds
returns-clause-worlds c =
    let one : Recorded = record { change = c.args.change; done = false } in
    opens_each c.args.self.now.is_open true (record { one = one; items = c.in_ok-push.ensures.items; is_done = refl; does = λ world. refl }) refl

pub returns-clause-time : goal.returns-clause-time
returns-clause-time c =
    let one : Recorded = record { change = c.args.change; done = false } in
    opens_time c.args.self.now.is_open true (record { one = one; items = c.in_ok-push.ensures.items; is_done = refl; does = λ world. refl }) refl
