use Rattle.std.proofs.Common.{string_bytes, ◌∙◌}
use Rattle.disk_model.specs.Worlds.{removed}
use Rattle.mem_disks.proofs.Remains.{image_removed, image_settled}
use Rattle.mem_disks.proofs.images.left_by.Goals as goal

pub returns-in_ok-clone-in-Published-2-clause-left : goal.returns-in_ok-clone-in-Published-2-clause-left
returns-in_ok-clone-in-Published-2-clause-left c world image is =
    let vol = c.in-Published.vol in
    let path = string_bytes c.in-Published.path in
    rw c.in-Published.is (rw c.in_ok-clone-in-Published.ensures.cases (rw c.in_ok-clone-in-Published-2.ensures.cases (rw (c.in_ok-to_vec-in-Published.ensures.items_if_clones_equal (λ x y same. same) ∙ c.deref.ensures.value)
    (image_settled c.args.fill.now (removed vol path world) (removed vol path image) (image_removed c.args.fill.now world image is vol path) vol (string_bytes c.in-Published.target) c.in-Published.bytes.items))))

pub returns-in_ok-clone-in-Removed-clause-left : goal.returns-in_ok-clone-in-Removed-clause-left
returns-in_ok-clone-in-Removed-clause-left c world image is =
    rw c.in-Removed.is (rw c.in_ok-clone-in-Removed.ensures.cases (image_removed c.args.fill.now world image is c.in-Removed.vol (string_bytes c.in-Removed.path)))

pub returns-in_ok-to_vec-in-Put-clause-left : goal.returns-in_ok-to_vec-in-Put-clause-left
returns-in_ok-to_vec-in-Put-clause-left c world image is =
    rw c.in-Put.is (rw c.in_ok-clone-in-Put.ensures.cases (rw (c.in_ok-to_vec-in-Put.ensures.items_if_clones_equal (λ x y same. same) ∙ c.deref-in-Put.ensures.value)
    (image_settled c.args.fill.now world image is c.in-Put.vol (string_bytes c.in-Put.path) c.in-Put.bytes.items)))
