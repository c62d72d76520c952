use Rattle.std.proofs.Common.{ℕ, ◌-◌, set, get_or, Some, string_bytes, subst, arith}
use Rattle.std.proofs.lemmas.Map.Text.{btree_map_updates_text}
use Rattle.mem_disks.specs.Shelves.{Puts}
use Rattle.mem_disks.proofs.Held.{puts, same, on_err}
use Rattle.mem_disks.proofs.shelves.put_entry.Goals as goal

pub returns-clause-ok : goal.returns-clause-ok
returns-clause-ok c =
    subst (λ (n : ℕ). Puts c.args.shelves.now (set c.args.shelves.now (c.from.result - 1) c.insert.new.self) (n - 1) (string_bytes c.args.path) (Some c.args.entry)) c.from.ensures
    (puts c.args.shelves.now (c.from.result - 1) c.index-shelves-from.result c.insert.new.self (string_bytes c.args.path) (Some c.args.entry)
    (omega (arith, c.from.ensures, c.requires.low, c.requires.high))
    (btree_map_updates_text (string_bytes c.args.path) (get_or c.args.shelves.now (c.from.result - 1) c.index-shelves-from.result) c.insert.new.self (Some c.args.entry) c.in_ok-insert.ensures.updates))

pub returns-in_err-insert-clause-err : goal.returns-in_err-insert-clause-err
returns-in_err-insert-clause-err c = on_err c.from_residual.result _
    (same c.args.shelves.now (c.from.result - 1) c.index-shelves-from.result c.insert.new.self
    (omega (arith, c.from.ensures, c.requires.low, c.requires.high)) c.in_err-insert.ensures.err)
