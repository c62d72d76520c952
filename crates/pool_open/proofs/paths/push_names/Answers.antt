use Rattle.std.proofs.Common.{◌<◌, ℕ, List, arith, length}
use Rattle.std.specs.Prelude.{codes}
use Rattle.disk_model.specs.Files.{path_in}
use Rattle.pool_open.specs.Plan.{Place}
use Rattle.pool_open.proofs.Lists.{mapped_more}
use Rattle.pool_open.proofs.paths.push_names.Goals as goal

pub loop-i-preserved : goal.loop-i-preserved
loop-i-preserved c =
    let below : c.loop-i.i < length c.args.names.now = omega (arith, c.loop-i-test.true, c.len-i-end.ensures) in
    let at : List ℕ → Place = λ name. (c.args.vol, path_in (codes "tmp") name) in
    mapped_more at _ _ _ c.args.names.now c.loop-i.i c.get.result.now below c.get.ensures c.loop-i.invariant c.in_ok-push_temporary.ensures
