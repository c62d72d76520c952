use Rattle.std.proofs.Common.{ap, ◌∙◌, sym, ◌∷◌}
use Rattle.std.specs.Prelude.{filter, remove}
use Rattle.replica_map.proofs.Filtered.{is_of, filter_others, filter_first}
use Rattle.replica_map.proofs.replica_map.ReplicaMap.drop_leftover.Goals as goal

pub returns-clause-others : goal.returns-clause-others
returns-clause-others c = λ leftover is id other.
    ap (filter (is_of id)) (c.remove-leftover.ensures.items ∙ ap (λ b. remove b.leftovers c.args.i) c.self.view_is) ∙ filter_others id c.args.self.now.leftovers c.args.i leftover is other

pub returns-clause-first : goal.returns-clause-first
returns-clause-first c = λ leftover is id at.
    filter_first id c.args.self.now.leftovers c.args.i leftover is at
    ∙ ap (λ ys. leftover ∷ filter (is_of id) ys) (sym (c.remove-leftover.ensures.items ∙ ap (λ b. remove b.leftovers c.args.i) c.self.view_is))
