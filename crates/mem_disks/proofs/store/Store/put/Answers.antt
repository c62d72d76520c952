use Rattle.std.proofs.Common.{List, ℕ, ap, ◌∙◌}
use Rattle.disk_model.specs.Worlds.{settled_at}
use Rattle.mem_disks.proofs.Remains.{on_ok}
use Rattle.mem_disks.specs.HistoryLaws.{records_as}
use Rattle.mem_disks.proofs.store.Store.put.Goals as goal

pub returns-clause-ok : goal.returns-clause-ok
returns-clause-ok c =
    on_ok c.carry_out.result (records_as _ _ _ _ (λ world.
    ap (λ (p : List ℕ). settled_at c.args.vol p c.in_ok-bytes.bytes.items world) c.in_ok-path.ensures.ok
    ∙ ap (λ (b : List ℕ). settled_at c.args.vol c.args.path.now b world) (c.in_ok-bytes.ensures.items_if_clones_equal (λ x y same. same)))) c.carry_out.ensures.ok
