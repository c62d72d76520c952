use Rattle.std.proofs.Common.{ℕ, ◌-◌, set, get_or, None, subst, arith}
use Rattle.std.proofs.lemmas.Map.Text.{btree_map_updates_text}
use Rattle.mem_disks.specs.Shelves.{Puts}
use Rattle.mem_disks.proofs.Held.{puts}
use Rattle.mem_disks.proofs.shelves.take_entry.Goals as goal

pub returns : goal.returns
returns c =
    subst (λ (n : ℕ). Puts c.args.shelves.now (set c.args.shelves.now (c.from.result - 1) c.remove.new.self) (n - 1) c.args.path.now None) c.from.ensures
    (puts c.args.shelves.now (c.from.result - 1) c.index-shelves-from.result c.remove.new.self c.args.path.now None
    (omega (arith, c.from.ensures, c.requires.low, c.requires.high))
    (btree_map_updates_text c.args.path.now (get_or c.args.shelves.now (c.from.result - 1) c.index-shelves-from.result) c.remove.new.self None c.remove.ensures.updates))
