use Rattle.std.proofs.Common.{◌+◌, arith}
use Rattle.pool_open.proofs.Temporary.{temporary_more}
use Rattle.pool_open.proofs.paths.list_temporary.Goals as goal

pub loop-names-preserved : goal.loop-names-preserved
loop-names-preserved c = record {
  counted = omega (arith, c.loop-names.invariant.counted);
  places_are = temporary_more _ _ _ c.args.temporary.now c.loop-names.names-index (c.loop-names.vol + 1) c.names-item.result c.loop-names-test.true c.names-item.is
      (omega (arith, c.loop-names.invariant.counted)) c.loop-names.invariant.places_are c.in_ok-push_names.ensures;
}
