use Rattle.std.proofs.Common.{ap, ◌∙◌, sym}
use Rattle.std.specs.Prelude.{position}
use Rattle.replica_map.specs.Leftovers.{is_leftover_of}
use Rattle.replica_map.proofs.Filtered.{first_is, first_of, none_left}
use Rattle.replica_map.proofs.replica_map.ReplicaMap.first_leftover.Goals as goal

pub returns-clause-own : goal.returns-clause-own
returns-clause-own c =
    first_is c.args.id c.args.vol c.args.self.now.leftovers _
    (c.position_of.ensures ∙ ap (position (is_leftover_of c.args.id c.args.vol)) (c.as_slice.ensures.value ∙ ap (λ b. b.leftovers) c.self.view_is))

pub returns-clause-none : goal.returns-clause-none
returns-clause-none c = λ any e.
    none_left c.args.id c.args.vol c.args.self.now.leftovers any
    (sym (c.position_of.ensures ∙ ap (position (is_leftover_of c.args.id c.args.vol)) (c.as_slice.ensures.value ∙ ap (λ b. b.leftovers) c.self.view_is)) ∙ e)

pub returns-clause-first : goal.returns-clause-first
returns-clause-first c = λ any.
    first_of c.args.id c.args.self.now _ c.args.vol any
    (c.position_of.ensures ∙ ap (position (is_leftover_of c.args.id c.args.vol)) (c.as_slice.ensures.value ∙ ap (λ b. b.leftovers) c.self.view_is))
