use Rattle.std.proofs.Common.{List, ℕ, Some, ◌∙◌, ap}
use Rattle.mem_disks.specs.History.{fork_after}
use Rattle.mem_disks.specs.Images.{left_of, only_files, counted}
use Rattle.mem_disks.proofs.Remains.{image_told, image_fresh, image_left}
use Rattle.mem_disks.proofs.disks.MemDisks.image.Goals as goal

pub returns-clause-can_leave : goal.returns-clause-can_leave
returns-clause-can_leave c =
    let old = c.args.self.now.store in
    let new = c.in_ok-image.field-0 in
    image_left c.args.done old.is_open new.is_open (fork_after old.records.items) (fork_after new.records.items) c.deref.result.now c.in_ok-image.ensures.closed
    c.in_ok-image.ensures.left c.in_ok-image.ensures.left_done

pub returns-clause-fresh : goal.returns-clause-fresh
returns-clause-fresh c =
    let old = c.args.self.now.store in
    let new = c.in_ok-image.field-0 in
    image_fresh c.args.done old.is_open new.is_open (fork_after old.records.items) (fork_after new.records.items) c.deref.result.now c.in_ok-image.ensures.closed
    c.in_ok-image.ensures.left c.in_ok-image.ensures.left_done

pub returns-clause-image : goal.returns-clause-image
returns-clause-image c world others tells =
    let old = c.args.self.now.store in
    let new = c.in_ok-image.field-0 in
    image_told c.args.done old.is_open new.is_open (fork_after old.records.items) (fork_after new.records.items) c.deref.result.now c.in_ok-image.ensures.closed
    c.in_ok-image.ensures.left c.in_ok-image.ensures.left_done world others tells
    ∙ ap (λ (b : List ℕ). Some (only_files (left_of (counted c.args.done world others) b))) (c.deref.ensures.value ∙ c.in_ok-filling.ensures.items_if_clones_equal (λ y same. same))
