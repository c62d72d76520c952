use Rattle.std.specs.Prelude.{◌≡◌, ◌+◌, max, drop}
use Rattle.replica_map.specs.Books.{used}
use Rattle.pool_state.specs.Rooms.{most_free}
use Rattle.pool_state.proofs.pool_record.Pool.most_free.Given as goal

abbrev pub invariant-loop-i : goal.invariant-loop-i
invariant-loop-i g l = record {
  most : max l.most (most_free (λ vol. used vol l.self.map) (l.i + 1) (drop l.i l.self.shares.items)) ≡ most_free (λ vol. used vol l.self.map) 1 l.self.shares.items;
}
