use Rattle.std.proofs.Common.{◌∙◌, subst, arith}
use Rattle.std.proofs.lemmas.Bool.{false≢true}
use Rattle.disk_model.proofs.GoingOn.{went_call, went_then}
use Rattle.pool_state.proofs.Removals.{RemovedSoFar, next_removed, removal_fails, all_removed, files_up_to, files_all}
use Rattle.pool_state.proofs.Reaching.{reaches_removed_at, reaches_remove_at}
use Rattle.pool_state.proofs.Foreign.{foreign_removed, foreign_then}
use Rattle.pool_state.proofs.cleaning.remove_files.Goals as goal

pub returns-in-Err-clause-removes : goal.returns-in-Err-clause-removes
returns-in-Err-clause-removes g c =
    removal_fails c.loop-at.invariant.so_far c.index-files-at.result
    (files_up_to c.args.files.now c.loop-at.at c.index-files-at.result (omega (arith, c.loop-at-test.true, c.loop-at.auto.at-end)) c.index-files-at.is)
    c.remove.ensures.time.nothing_else _ (λ ok. absurd (false≢true ok))
    (reaches_remove_at c.args.id c.args.vol c.index-files-at.result c.requires.valid c.path.ensures.valid _ (c.as_str.ensures ∙ c.path.ensures.text) _ _ c.remove.ensures.worlds)

pub loop-at-preserved : goal.loop-at-preserved
loop-at-preserved g c = record {
  so_far =
      subst (λ n. RemovedSoFar c.args.id c.args.vol c.args.files.now n (g.D.PoolDisks.worlds c.args.disks.now) (g.D.PoolDisks.worlds c.remove.new.self) (g.D.PoolDisks.left_since c.args.disks.now) (g.D.PoolDisks.left_since c.remove.new.self))
      (omega arith)
      (next_removed c.loop-at.invariant.so_far c.index-files-at.result
      (files_up_to c.args.files.now c.loop-at.at c.index-files-at.result (omega (arith, c.loop-at-test.true, c.loop-at.auto.at-end)) c.index-files-at.is)
      c.remove.ensures.time.nothing_else
      (reaches_removed_at c.args.id c.args.vol c.index-files-at.result c.requires.valid c.path.ensures.valid _ (c.as_str.ensures ∙ c.path.ensures.text) _ _ c.in-Ok.ensures.ok));
  goes_on = went_then g.D.PoolDisks _ _ _ c.loop-at.invariant.goes_on
      (went_call g.D.PoolDisks (g.met.D.PoolDisks.counts_now _) c.remove.ensures.time c.remove.ensures.worlds.honest c.remove.ensures.cause.later c.remove.ensures.absences (omega (arith, c.remove.ensures.numbers)) c.remove.ensures.volumes);
  foreign = foreign_then c.loop-at.invariant.foreign (foreign_removed c.args.id c.args.vol c.index-files-at.result c.requires.valid c.path.ensures.valid _ (c.as_str.ensures ∙ c.path.ensures.text) c.remove.ensures.worlds c.remove.ensures.time);
}

pub returns-clause-removes : goal.returns-clause-removes
returns-clause-removes g c =
    all_removed c.loop-at.invariant.so_far (files_all c.args.files.now c.loop-at.at (omega (arith, c.loop-at-test.false, c.loop-at.auto.at-end))) _

pub returns-in-Err-clause-goes_on : goal.returns-in-Err-clause-goes_on
returns-in-Err-clause-goes_on g c = went_then g.D.PoolDisks _ _ _ c.loop-at.invariant.goes_on
    (went_call g.D.PoolDisks (g.met.D.PoolDisks.counts_now _) c.remove.ensures.time c.remove.ensures.worlds.honest c.remove.ensures.cause.later c.remove.ensures.absences (omega (arith, c.remove.ensures.numbers)) c.remove.ensures.volumes)

pub returns-in-Err-clause-foreign : goal.returns-in-Err-clause-foreign
returns-in-Err-clause-foreign g c = foreign_then c.loop-at.invariant.foreign
    (foreign_removed c.args.id c.args.vol c.index-files-at.result c.requires.valid c.path.ensures.valid _ (c.as_str.ensures ∙ c.path.ensures.text) c.remove.ensures.worlds c.remove.ensures.time)
