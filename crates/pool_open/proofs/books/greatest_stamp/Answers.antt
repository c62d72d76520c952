use Rattle.std.proofs.Common.{List, ℕ, take, sym, subst}
use Rattle.pool_survey.specs.declared.places.FoundOn.{FoundOn}
use Rattle.pool_open.specs.Found.{IsGreatestOf, IsGreatestStamp, writing_stamps}
use Rattle.pool_open.proofs.Lists.{take_put}
use Rattle.pool_open.proofs.Held.{greatest_more}
use Rattle.pool_open.proofs.books.greatest_stamp.Goals as goal

pub loop-on-preserved : goal.loop-on-preserved
loop-on-preserved c =
    let here : IsGreatestOf c.loop-on.greatest c.on-item.result.files.writing_metas.items c.greatest_of-greatest.result =
    subst (λ (l : List ℕ). IsGreatestOf c.loop-on.greatest l c.greatest_of-greatest.result) c.deref.ensures.value c.greatest_of-greatest.ensures in
    subst (λ (l : List FoundOn). IsGreatestStamp (writing_stamps l) c.greatest_of-greatest.result) (sym (take_put c.args.places.now c.loop-on.on-index c.on-item.result c.loop-on-test.true c.on-item.is))
    (greatest_more (take c.loop-on.on-index c.args.places.now) c.on-item.result c.loop-on.greatest c.greatest_of-greatest.result c.loop-on.invariant here)
