use Rattle.std.proofs.Common.{◌+◌, ◌∙◌, ap, arith}
use Rattle.std.specs.Prelude.{drop}
use Rattle.std.proofs.lemmas.List.{drop-drop}
use Rattle.disk_model.proofs.GoingOn.{went_then}
use Rattle.pool_state.specs.Books.{left_at}
use Rattle.pool_state.proofs.Foreign.{foreign_then}
use Rattle.pool_state.proofs.QuietRemovals.{both_quiet}
use Rattle.pool_state.proofs.pool_record.Pool.clean.Goals as goal

pub returns-in_err-clean_one-clause-quiet : goal.returns-in_err-clean_one-clause-quiet
returns-in_err-clean_one-clause-quiet g c cells stands =
    let was = c.loop.invariant.quiet cells stands in
    both_quiet was (c.clean_one.ensures.quiet cells (was.0.stands _ stands))

pub loop-preserved : goal.loop-preserved
loop-preserved g c = record {
  stands = let some = c.requires.stands in
      let was = c.loop.invariant.quiet some.0 some.1 in
      (some.0, (c.clean_one.ensures.quiet some.0 (was.0.stands _ some.1)).0.stands _ (was.0.stands _ some.1));
  quiet = λ cells stands.
      let was = c.loop.invariant.quiet cells stands in
      both_quiet was (c.clean_one.ensures.quiet cells (was.0.stands _ stands));
  fewer = omega (arith, c.loop.invariant.fewer, c.in_ok-clean_one.ensures.fewer);
  front = (
    c.loop.invariant.front.0 + 1,
    c.in_ok-clean_one.ensures.front ∙ ap (drop 1) c.loop.invariant.front.1 ∙ drop-drop 1 c.loop.invariant.front.0 (left_at c.args.self.now.map c.args.id),
  );
  rows = (c.clean_one.ensures.rows.0 ∙ c.loop.invariant.rows.0, c.clean_one.ensures.rows.1 ∙ c.loop.invariant.rows.1);
  tickets = c.clean_one.ensures.tickets ∙ c.loop.invariant.tickets;
  others = λ other apart. c.clean_one.ensures.others other apart ∙ c.loop.invariant.others other apart;
  choosing = c.clean_one.ensures.choosing ∙ c.loop.invariant.choosing;
  goes_on = went_then _ _ _ _ c.loop.invariant.goes_on c.clean_one.ensures.goes_on;
  foreign = foreign_then c.loop.invariant.foreign c.clean_one.ensures.foreign;
}

pub returns-in_err-clean_one-clause-front : goal.returns-in_err-clean_one-clause-front
returns-in_err-clean_one-clause-front g c =
    (c.loop.invariant.front.0, ap (λ m. left_at m c.args.id) c.in_err-clean_one.ensures.kept ∙ c.loop.invariant.front.1)

pub returns-in_err-clean_one-clause-foreign : goal.returns-in_err-clean_one-clause-foreign
returns-in_err-clean_one-clause-foreign g c = foreign_then c.loop.invariant.foreign c.clean_one.ensures.foreign

pub returns-in_err-clean_one-clause-goes_on : goal.returns-in_err-clean_one-clause-goes_on
returns-in_err-clean_one-clause-goes_on g c = went_then _ _ _ _ c.loop.invariant.goes_on c.clean_one.ensures.goes_on
