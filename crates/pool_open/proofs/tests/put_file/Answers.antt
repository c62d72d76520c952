use Rattle.std.proofs.Common.{refl}
use Rattle.std.specs.Prelude.{codes}
use Rattle.disk_model.specs.Worlds.{draft_at}
use Rattle.disk_model.specs.Told.{told_bytes}
use Rattle.disk_model.proofs.Laws.{each_after_failed}
use Rattle.map_model.specs.World.{DraftsAside}
use Rattle.map_model.proofs.Aside.{aside_created, aside_published}
use Rattle.pool_open.proofs.tests.put_file.Goals as goal

pub returns-in-Ok-publish-clause-aside : goal.returns-in-Ok-publish-clause-aside
returns-in-Ok-publish-clause-aside g c =
    let sealed = g.D.Sealed.SealedDraft.place c.in-Ok.sealed in
    let bytes = told_bytes (g.D.Sealed.SealedDraft.bytes c.in-Ok.sealed) in
    each_after_failed DraftsAside DraftsAside c.publish.ensures.worlds
    (each_after_failed DraftsAside DraftsAside c.create.ensures.worlds c.requires.aside (λ world is aside. aside)
    (λ world is aside. aside_created (draft_at (g.D.PoolDisks.next_number c.args.disks.now) 1 (codes "tmp/draft")) world refl aside))
    (λ world is aside. aside) (λ world is aside. aside_published sealed bytes c.args.path.now world aside)
