use Rattle.std.proofs.Common.{ap, sym, ◌∙◌}
use Rattle.std.proofs.lemmas.Bool.{false≢true}
use Rattle.pool_survey.specs.Places.{places_of, with_found}
use Rattle.pool_survey.proofs.Adding.{none_left}
use Rattle.pool_survey.proofs.Merging.{no_entries, blocks_left, still_merged}
use Rattle.pool_survey.proofs.places.merge.Goals as goal

pub add_found-requires-clause-id : goal.add_found-requires-clause-id
add_found-requires-clause-id c = c.loop-id.invariant.found.ids c.in-Some.id c.in-Some.files c.in-Some.ensures.value

pub loop-id-preserved : goal.loop-id-preserved
loop-id-preserved c = record {
  found = blocks_left c.loop-id.found c.pop_first.new.self c.in-Some.id c.in-Some.ensures.updates c.loop-id.invariant.found;
  ids = c.in_ok-add_found.ensures.ids;
  merged = λ id.
      still_merged c.loop-id.found c.pop_first.new.self c.in-Some.id c.in-Some.ensures.updates c.args.vol c.in-Some.files c.loop-id.blocks c.add_found.new.blocks
      c.in-Some.ensures.value c.in_ok-add_found.ensures.added id
      ∙ c.loop-id.invariant.merged id;
}

pub returns-clause-merged : goal.returns-clause-merged
returns-clause-merged c id =
    sym (ap (with_found c.args.vol (places_of c.loop-id.blocks id)) (none_left c.loop-id.found (no_entries c.loop-id.found (λ more. false≢true (c.in_default.ensures.variant.1 more))) id))
    ∙ c.loop-id.invariant.merged id
