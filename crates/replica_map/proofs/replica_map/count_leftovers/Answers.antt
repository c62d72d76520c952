use Rattle.std.proofs.Common.{arith, take}
use Rattle.std.proofs.lemmas.List.{length-take}
use Rattle.replica_map.proofs.KeptLemmas.{leftovers_fit}
use Rattle.replica_map.proofs.replica_map.count_leftovers.Goals as goal

pub add-requires : goal.add-requires
add-requires c = record {
  fits = omega (
    arith,
    c.requires.few,
    c.requires.fits c.leftover-item.result.vol,
    c.loop-leftover.invariant.uses c.leftover-item.result.vol,
    leftovers_fit c.leftover-item.result.vol (take c.loop-leftover.leftover-index c.args.leftovers.now) c.loop-leftover.invariant.ranges,
    length-take c.loop-leftover.leftover-index c.args.leftovers.now,
    c.counted_len.ensures.fits,
  );
}
