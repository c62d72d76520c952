use Rattle.std.proofs.Common.{ℕ, ◌-◌, sym, ◌∙◌, ap, arith}
use Rattle.std.specs.BTreeMap.{get_by_text}
use Rattle.mem_disks.specs.Shelves.{held}
use Rattle.mem_disks.proofs.Held.{held_get}
use Rattle.mem_disks.proofs.shelves.entry_at.Goals as goal

pub returns : goal.returns
returns c =
    c.copied.ensures ∙ c.get.ensures.value ∙ ap (λ m. get_by_text m c.args.path.now) c.index-shelves-from.is
    ∙ sym (held_get c.args.shelves.now (c.from.result - 1) c.index-shelves-from.result c.args.path.now (omega (arith, c.from.ensures, c.requires.low, c.requires.high)))
    ∙ ap (λ (n : ℕ). held c.args.shelves.now (n - 1) c.args.path.now) c.from.ensures
