use Rattle.std.proofs.Common.{sym, ◌∙◌}
use Rattle.mem_disks.proofs.Follows.{bytes_get, bytes_past}
use Rattle.mem_disks.proofs.store.bytes_at.Goals as goal

pub returns-then-index-records : goal.returns-then-index-records
returns-then-index-records c =
    c.bytes_in.ensures ∙ sym (bytes_get c.args.records.now c.args.index c.index-records-index.result c.if-index-records.true)

pub returns-else-index-records : goal.returns-else-index-records
returns-else-index-records c = sym (bytes_past c.args.records.now c.args.index c.if-index-records.false)
