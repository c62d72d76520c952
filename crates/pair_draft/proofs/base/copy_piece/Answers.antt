use Rattle.pair_draft.proofs.Bases.{base_goes_on}
use Rattle.pair_draft.proofs.base.copy_piece.Goals as goal

pub returns-in-Ok-push-clause-base : goal.returns-in-Ok-push-clause-base
returns-in-Ok-push-clause-base g c = λ told so_far.
    base_goes_on c.args.at c.in-Ok.have c.read_full.new.out _ so_far c.in-Ok.ensures.within c.in-Ok.ensures.read
    (c.in-Ok-push.ensures.pushed told so_far.bytes so_far.pushed)
