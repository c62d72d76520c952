use Rattle.std.proofs.Common.{◌≢◌, ◌<◌, ◌≤◌, length, arith, get_or-set_other, get_or-set_same, below_more}
use Rattle.std.proofs.lemmas.Grind.{common_steps}
use Rattle.meta_file.proofs.CrcLemmas.{tables_step}
use Rattle.meta_file.proofs.crc.tables_of.Goals as goal

pub loop-i-preserved : goal.loop-i-preserved
loop-i-preserved c =
    let i = c.loop-i.i in
    let room : i < length c.loop-i.tables = omega arith in
    let ge : 256 ≤ i = omega arith in (
      grind (arith, common_steps),
      below_more _ _
          (λ m h. let ne : m ≢ i = omega arith in rw get_or-set_other (c.loop-i.invariant.1 m h))
          (rw get_or-set_same (tables_step c.args.poly i c.loop-i.tables ge c.loop-i.invariant.1)),
    )
