use Rattle.std.proofs.Common.{◌≤◌, ◌-◌, length, arith}
use Rattle.meta_file.proofs.CrcLemmas.{eight_more, rest_more}
use Rattle.meta_file.proofs.crc.Tables.update_two.Goals as goal

pub loop-at-preserved : goal.loop-at-preserved
loop-at-preserved c =
    let poly = c.args.self.now.poly in
    let at = c.loop-at.at in
    let same = c.requires in
    let fits : 8 ≤ length c.args.one.now - at = omega arith in
    let other_fits : 8 ≤ length c.args.other.now - at = omega (arith, same) in
    record {
      within = omega arith;
      first = eight_more poly c.args.first c.loop-at.first c.eight_bytes-first.result at c.args.one.now fits c.loop-at.invariant.first c.eight_bytes-first.ensures;
      second = eight_more poly c.args.second c.loop-at.second c.eight_bytes-second.result at c.args.other.now other_fits c.loop-at.invariant.second c.eight_bytes-second.ensures;
    }

pub returns : goal.returns
returns c =
    let poly = c.args.self.now.poly in
    let at = c.loop-at.at in
    record {
      first = rest_more poly c.args.first c.loop-at.first c.update.result at c.args.one.now c.loop-at.invariant.first c.update.ensures;
      second = rest_more poly c.args.second c.loop-at.second c.update-2.result at c.args.other.now c.loop-at.invariant.second c.update-2.ensures;
    }
