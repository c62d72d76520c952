use Rattle.std.proofs.Common.{sym, ◌∙◌, subst}
use Rattle.std.specs.Prelude.{codes, IsFalse}
use Rattle.disk_model.specs.Worlds.{has_draft}
use Rattle.disk_model.specs.Told.{told_bytes}
use Rattle.disk_model.proofs.Laws.{from_done}
use Rattle.pool_survey.proofs.Drafts.{settled_away}
use Rattle.pool_survey.proofs.tests.put_file.Goals as goal

pub returns-in-Ok-publish-clause-free : goal.returns-in-Ok-publish-clause-free
returns-in-Ok-publish-clause-free g c world is =
    let from = from_done c.in-Ok-publish.ensures.ok world is in
    subst (λ w. IsFalse (has_draft w 2 (codes "tmp/draft"))) (sym from.3)
    (settled_away (g.D.Sealed.SealedDraft.place c.in-Ok.sealed) (g.D.PoolDisks.next_number c.args.disks.now) 2 (codes "tmp/draft")
    (told_bytes (g.D.Sealed.SealedDraft.bytes c.in-Ok.sealed)) c.args.path.now from.0 (c.in-Ok.ensures.place ∙ c.in_ok-draft.ensures.place))
