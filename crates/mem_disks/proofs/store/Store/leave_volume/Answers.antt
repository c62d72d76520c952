use Rattle.std.proofs.Common.{◌-◌, List, ℕ, sym, ◌∙◌, ap}
use Rattle.disk_model.specs.Worlds.{settled_at}
use Rattle.mem_disks.specs.Shelves.{held}
use Rattle.mem_disks.specs.History.{fork_after}
use Rattle.mem_disks.specs.HistoryLaws.{now_after}
use Rattle.mem_disks.specs.Images.{left_of}
use Rattle.mem_disks.proofs.Remains.{none_more, file_more, all_taken}
use Rattle.mem_disks.proofs.store.Store.leave_volume.Goals as goal

pub loop-path-preserved-in-Continue-1 : goal.loop-path-preserved-in-Continue-1
loop-path-preserved-in-Continue-1 c =
    let world = (fork_after c.args.self.now.records.items).now in
    let image = (fork_after c.loop-path.image.records.items).now in (
      file_more (left_of world c.args.fill.now) c.args.vol c.into_iter-path-iterator.result c.loop-path.path-iterator image c.loop-path.invariant.0
          (c.in-Some.path.now, c.in-Some.field-0-1.now) c.next.new.self c.in-Some.ensures.steps c.in-Some-left_at.bytes.now
          (ap (λ (p : List ℕ). left_of world c.args.fill.now c.args.vol p) (sym c.as_str.ensures.value) ∙ sym c.in-Some-left_at.ensures)
          (fork_after c.put.new.self.records.items).now
          (now_after c.in_ok-put-in-Some-left_at.ensures.ok ∙ ap (λ (p : List ℕ). settled_at c.args.vol p c.in-Some-left_at.bytes.now image) c.as_str-in-Some-left_at.ensures.value),
      λ was. c.in_ok-put-in-Some-left_at.ensures.closed,
      c.put.ensures.numbers ∙ c.loop-path.invariant.2,
      c.put.ensures.volumes ∙ c.loop-path.invariant.3,
    )

pub loop-path-preserved : goal.loop-path-preserved
loop-path-preserved c =
    let world = (fork_after c.args.self.now.records.items).now in
    let image = (fork_after c.loop-path.image.records.items).now in (
      none_more (left_of world c.args.fill.now) c.args.vol c.into_iter-path-iterator.result c.loop-path.path-iterator image c.loop-path.invariant.0
          (c.in-Some.path.now, c.in-Some.field-0-1.now) c.next.new.self c.in-Some.ensures.steps
          (ap (λ (p : List ℕ). left_of world c.args.fill.now c.args.vol p) (sym c.as_str.ensures.value) ∙ sym c.in-None-left_at.ensures),
      c.loop-path.invariant.1,
      c.loop-path.invariant.2,
      c.loop-path.invariant.3,
    )

pub returns-clause-left : goal.returns-clause-left
returns-clause-left c =
    let store = c.args.self.now in
    all_taken store.volume_count store.records.items store.shelves.items c.args.fill.now c.args.vol c.shelf_of-path-items.result.now (fork_after c.loop-path.image.records.items).now
    c.requires.low c.requires.high store.drafts store.files
    (λ path. ap (λ shelves. held shelves (c.args.vol - 1) path) (sym c.deref.ensures.value) ∙ c.shelf_of-path-items.ensures path)
    c.into_iter-path-iterator.result c.loop-path.path-iterator c.into_iter-path-iterator.ensures.into_iter_gives.0 c.in-None.ensures.steps.0 c.loop-path.invariant.0
