use Rattle.pool_survey.proofs.Listed.{Kept}
use Rattle.pool_survey.proofs.listing.add_names.Given as goal

abbrev pub invariant-loop-i : goal.invariant-loop-i
invariant-loop-i l = Kept l.dir l.i l.names l.fn.blocks l.blocks
