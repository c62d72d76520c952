use Rattle.std.proofs.Common.{refl, sym, ◌∙◌, ap, option_map}
use Rattle.pair_draft.specs.Writers.{writer_of}
use Rattle.run_session.proofs.FoundAgain.{carried_reopen, stays_reopen, on_ok, on_err}
use Rattle.run_session.proofs.session.Session.reopen.Goals as goal

pub reopen_pool-requires : goal.reopen_pool-requires
reopen_pool-requires g c = record { aside = c.requires.stands.1.pool.aside }

pub returns-clause-ok : goal.returns-clause-ok
returns-clause-ok g c state standing =
    on_ok c.reopen_pool.result (λ opens anew. carried_reopen standing opens anew (c.args.self.now.pool.shared ∙ sym c.reopen_pool.ensures.goes_on.volume_count)
    (λ id. ap (option_map (writer_of g.D.Draft.Draft.place g.D.Draft.Draft.bytes)) (c.new.ensures id)) c.reopen_pool.ensures.images (λ id. refl))
    c.reopen_pool.ensures.opened c.reopen_pool.ensures.choosing

pub returns-clause-err : goal.returns-clause-err
returns-clause-err g c state standing = on_err c.reopen_pool.result (stays_reopen standing c.reopen_pool.ensures.images)
