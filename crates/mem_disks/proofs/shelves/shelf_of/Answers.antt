use Rattle.std.proofs.Common.{ℕ, ◌-◌, sym, ◌∙◌, ap, arith}
use Rattle.std.specs.BTreeMap.{get_by_text}
use Rattle.mem_disks.specs.Shelves.{held}
use Rattle.mem_disks.proofs.Held.{held_get}
use Rattle.mem_disks.proofs.shelves.shelf_of.Goals as goal

pub returns : goal.returns
returns c path =
    ap (λ (n : ℕ). held c.args.shelves.now (n - 1) path) (sym c.from.ensures)
    ∙ held_get c.args.shelves.now (c.from.result - 1) c.index-shelves-from.result path (omega (arith, c.from.ensures, c.requires.low, c.requires.high))
    ∙ ap (λ m. get_by_text m path) (sym c.index-shelves-from.is)
