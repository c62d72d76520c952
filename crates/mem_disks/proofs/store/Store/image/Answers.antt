use Rattle.std.proofs.Common.{sym, subst}
use Rattle.disk_model.specs.Worlds.{World}
use Rattle.mem_disks.specs.History.{fork_after, changed}
use Rattle.mem_disks.specs.HistoryLaws.{now_after}
use Rattle.mem_disks.specs.Images.{IsImageOf}
use Rattle.mem_disks.proofs.store.Store.image.Goals as goal

pub returns-clause-left_done : goal.returns-clause-left_done
returns-clause-left_done c done =
    let world = (fork_after c.args.self.now.records.items).now in
    let image = (fork_after c.in_ok-image.image.records.items).now in
    subst (λ (w : World). IsImageOf w c.args.fill.now (fork_after c.carry_out.new.self.records.items).now) (sym c.in-Some.ensures.does)
    (subst (λ (i : World). IsImageOf (changed world c.in-Some.change.now) c.args.fill.now i) (sym (now_after c.in_ok-carry_out.ensures.ok))
    (c.in_ok-left_by.ensures.left world image c.in_ok-image.ensures.left))
