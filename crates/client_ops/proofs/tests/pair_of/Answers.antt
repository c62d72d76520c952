use Rattle.std.proofs.Common.{◌≡◌, List, [], Option, sym, subst}
use Rattle.disk_model.specs.Worlds.{World}
use Rattle.disk_model.specs.Told.{InEachWorld}
use Rattle.disk_model.proofs.Laws.{each_after_failed}
use Rattle.mem_disks.proofs.Bare.{free_where_bare}
use Rattle.client_ops.proofs.tests.pair_of.Goals as goal

-- no draft is on these disks
abbrev Bare : Option (List World) → Type 0
Bare told = InEachWorld told (λ world. world.drafts ≡ [])

pub lend_reader-requires-clause-settled : goal.lend_reader-requires-clause-settled
lend_reader-requires-clause-settled c =
    free_where_bare _ 1 _ (subst Bare (sym c.in_ok-fail.ensures.worlds) c.in_ok-put_file-2.ensures.bare)

pub lend_reader-requires-2-clause-settled : goal.lend_reader-requires-2-clause-settled
lend_reader-requires-2-clause-settled c =
    free_where_bare _ 1 _ (each_after_failed (λ world. world.drafts ≡ []) (λ world. world.drafts ≡ []) c.in_ok-lend_reader.ensures.worlds
    (subst Bare (sym c.in_ok-fail.ensures.worlds) c.in_ok-put_file-2.ensures.bare) (λ world is none. none) (λ world is none. none))
