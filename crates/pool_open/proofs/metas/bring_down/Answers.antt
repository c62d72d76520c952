use Rattle.std.proofs.Common.{List, arith, All, None, sym, ◌∙◌, subst}
use Rattle.std.proofs.lemmas.Bool.{false≢true}
use Rattle.std.proofs.lemmas.Option.{none-some}
use Rattle.pool_survey.specs.declared.places.FoundOn.{FoundOn}
use Rattle.pool_open.specs.Surplus.{HasFiles, AreBroughtDown}
use Rattle.pool_open.proofs.Placed.{places_here}
use Rattle.pool_open.proofs.Bringing.{written_back, ids_put, files_taken, way_on, way_end, nothing_left}
use Rattle.pool_open.proofs.metas.bring_down.Goals as goal

pub bring_down_all-requires : goal.bring_down_all-requires
bring_down_all-requires c =
    subst (λ (l : List FoundOn). All HasFiles l) (places_here c.loop-id.blocks c.in-Some.id c.in-Some.places c.in-Some.ensures.value ∙ sym c.deref_mut.ensures.value)
    (c.loop-id.invariant.files c.in-Some.id)

pub loop-id-preserved-in_ok-insert : goal.loop-id-preserved-in_ok-insert
loop-id-preserved-in_ok-insert c =
    let loop = c.loop-id.invariant in
    let down = subst (λ (l : List FoundOn). AreBroughtDown l c.bring_down_all.new.places) c.deref_mut.ensures.value c.in_ok-bring_down_all.ensures in
    let written = subst (λ (l : List FoundOn). AreBroughtDown c.in-Some.places.items l) (sym (written_back c.in-Some.places.items c.bring_down_all.new.places c.in-Some.places.len down (omega (arith, c.deref_mut.ensures.len)))) down in
    record {
      ids = ids_put c.loop-id.blocks c.pop_first.new.self c.in-Some.id None c.in-Some.ensures.updates loop.ids (λ found is. absurd (none-some found is));
      left_ids = ids_put c.loop-id.left c.insert.new.self c.in-Some.id _ c.in_ok-insert.ensures.updates loop.left_ids (λ found is. loop.ids c.in-Some.id c.in-Some.places c.in-Some.ensures.value);
      files = files_taken c.args.blocks c.loop-id.blocks c.pop_first.new.self c.loop-id.left c.insert.new.self c.in-Some.id c.in-Some.places _ c.in-Some.ensures.value
          c.in-Some.ensures.updates c.in_ok-insert.ensures.updates loop.files;
      under_way = way_on c.args.blocks c.loop-id.blocks c.pop_first.new.self c.loop-id.left c.insert.new.self c.in-Some.id c.in-Some.places _ c.in-Some.ensures.value
          c.in-Some.ensures.updates c.in_ok-insert.ensures.updates written loop.under_way;
    }

pub loop-id-preserved : goal.loop-id-preserved
loop-id-preserved c =
    let loop = c.loop-id.invariant in
    let down = subst (λ (l : List FoundOn). AreBroughtDown l c.bring_down_all.new.places) c.deref_mut.ensures.value c.in_ok-bring_down_all.ensures in
    let written = subst (λ (l : List FoundOn). AreBroughtDown c.in-Some.places.items l) (sym (written_back c.in-Some.places.items c.bring_down_all.new.places c.in-Some.places.len down (omega (arith, c.deref_mut.ensures.len)))) down in
    record {
      ids = ids_put c.loop-id.blocks c.pop_first.new.self c.in-Some.id None c.in-Some.ensures.updates loop.ids (λ found is. absurd (none-some found is));
      left_ids = ids_put c.loop-id.left c.insert.new.self c.in-Some.id _ c.in_ok-insert.ensures.updates loop.left_ids (λ found is. loop.ids c.in-Some.id c.in-Some.places c.in-Some.ensures.value);
      files = files_taken c.args.blocks c.loop-id.blocks c.pop_first.new.self c.loop-id.left c.insert.new.self c.in-Some.id c.in-Some.places _ c.in-Some.ensures.value
          c.in-Some.ensures.updates c.in_ok-insert.ensures.updates loop.files;
      under_way = way_on c.args.blocks c.loop-id.blocks c.pop_first.new.self c.loop-id.left c.insert.new.self c.in-Some.id c.in-Some.places _ c.in-Some.ensures.value
          c.in-Some.ensures.updates c.in_ok-insert.ensures.updates written loop.under_way;
    }

pub returns-clause-brought_down : goal.returns-clause-brought_down
returns-clause-brought_down c =
    way_end c.args.blocks c.loop-id.blocks c.loop-id.left (nothing_left c.loop-id.blocks (λ more. false≢true (c.in_default.ensures.variant.1 more))) c.loop-id.invariant.under_way
