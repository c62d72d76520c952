use Rattle.std.specs.Prelude.{◌≡◌, ◌+◌, ◌-◌, drop}
use Rattle.replica_map.specs.Books.{used}
use Rattle.pool_state.specs.Rooms.{first_fitting}
use Rattle.pool_state.proofs.pool_record.Pool.first_fitting.Given as goal

abbrev pub invariant-loop-i : goal.invariant-loop-i
invariant-loop-i g l = record {
  none : first_fitting (λ vol. used vol l.self.map) l.need (l.i + 1) (drop l.i l.self.shares.items)
      ≡ first_fitting (λ vol. used vol l.self.map) l.need l.from (drop (l.from - 1) l.self.shares.items);
}
