use Rattle.std.proofs.Common.{◌<◌, ◌+◌, sym, subst}
use Rattle.pool_survey.proofs.NameLemmas.{looked_for}
use Rattle.pool_survey.proofs.Listed.{Kept, fresh, skipped, listed_more, same_outside}
use Rattle.pool_survey.proofs.listing.add_names.Goals as goal
use Rattle.pool_survey.proofs.listing.add_names.Goals.{in-Some+in_ok-add_file, in_default}

pub add_file-requires-clause-looked_for : goal.add_file-requires-clause-looked_for
add_file-requires-clause-looked_for c = looked_for c.args.dir _ _ c.in-Some.ensures.some.0

pub add_file-requires-clause-fresh : goal.add_file-requires-clause-fresh
add_file-requires-clause-fresh c =
    let within = subst (λ n. c.loop-i.i < n) c.len-i-end.ensures c.loop-i-test.true in
    fresh c.args.dir c.args.names.now c.loop-i.i within c.get.result.now c.get.ensures c.loop-i.blocks c.loop-i.blocks c.loop-i.invariant.listed
    _ _ c.in-Some.ensures.valid.0 c.in-Some.ensures.valid.1 c.in-Some.ensures.some.0 c.in-Some.ensures.some.1 c.requires.order

pub loop-i-preserved : goal.loop-i-preserved
loop-i-preserved c =
    let within = subst (λ n. c.loop-i.i < n) c.len-i-end.ensures c.loop-i-test.true in
    elim c.match-file_named.branch [
      | in-Some+in_ok-add_file w ↦ subst (Kept c.args.dir (c.loop-i.i + 1) c.args.names.now c.args.blocks.now) (sym w.blocks-is) (record {
        are = w.in_ok-add_file.ensures.blocks;
        listed = listed_more c.args.dir c.args.names.now c.loop-i.i within c.get.result.now c.get.ensures c.loop-i.blocks w.add_file.new.blocks c.loop-i.invariant.listed
            _ _ w.in-Some.ensures.valid.0 w.in-Some.ensures.valid.1 w.in-Some.ensures.some.0 w.in-Some.ensures.some.1 w.in_ok-add_file.ensures.added;
        others = same_outside c.args.dir c.args.names.now c.loop-i.i within c.get.result.now c.get.ensures c.loop-i.blocks w.add_file.new.blocks c.loop-i.invariant.listed
            _ _ w.in-Some.ensures.valid.0 w.in-Some.ensures.valid.1 w.in-Some.ensures.some.0 w.in-Some.ensures.some.1 w.in_ok-add_file.ensures.added c.args.blocks.now c.loop-i.invariant.others;
      })
      | in_default w ↦ subst (Kept c.args.dir (c.loop-i.i + 1) c.args.names.now c.args.blocks.now) (sym w.blocks-is) (record {
        are = c.loop-i.invariant.are;
        listed = skipped c.args.dir c.args.names.now c.loop-i.i within c.get.result.now c.get.ensures c.loop-i.blocks c.loop-i.blocks c.loop-i.invariant.listed w.in_default.ensures.none;
        others = c.loop-i.invariant.others;
      })
    ]
