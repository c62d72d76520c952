use Rattle.std.proofs.Common.{◌≡◌, ◌+◌, ◌*◌, ◌^◌, ap, sym, ◌∙◌, subst}
use Rattle.replica_map.specs.Rising.{count_between}
use Rattle.replica_map.specs.Books.{replicas}
use Rattle.replica_map.specs.contracts.replica_map.ReplicaMap.{the_view}
use Rattle.replica_map.proofs.Replicas.{replicas_are}
use Rattle.replica_map.proofs.replica_map.ReplicaMap.replicas.Goals as goal

pub returns : goal.returns
returns c =
    let books = the_view c.self.inside in
    c.count_between.ensures
    ∙ subst (λ v. count_between (λ n. n) (v * 2 ^ 80) (v * 2 ^ 80 + 2 ^ 80) c.self.inside.tally.places.items ≡ replicas c.args.vol books) (sym c.from-low.ensures)
    (replicas_are books c.args.vol c.self.invariant)
    ∙ ap (replicas c.args.vol) c.self.view_is
