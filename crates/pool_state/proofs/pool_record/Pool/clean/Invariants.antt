use Rattle.std.specs.Prelude.{◌≡◌, ◌≢◌, ◌+◌, ◌≤◌, ℕ, drop, length}
use Rattle.map_model.specs.Cells.{Cells}
use Rattle.map_model.specs.Sound.{nothing}
use Rattle.replica_map.specs.Books.{SameRows}
use Rattle.pool_state.specs.Books.{block_books, left_at}
use Rattle.disk_model.specs.Marks.{GoesOn}
use Rattle.pool_state.specs.Foreign.{LeavesForeign}
use Rattle.pool_state.specs.Stands.{Stands, StandsForSome}
use Rattle.pool_state.specs.Tenures.{Rests, KeepsWhole, ChoosesAsBefore}
use Rattle.pool_state.proofs.pool_record.Pool.clean.Given as goal

abbrev pub invariant-loop : goal.invariant-loop
invariant-loop g l = record {
  stands : StandsForSome l.self;
  quiet : (cells : Cells) → Stands l.fn.self nothing cells →
      Rests cells l.fn.self l.self × KeepsWhole l.fn.self l.self;
  fewer : length l.self.map.leftovers + l.counter ≤ l.end;
  front : (count : ℕ) × (left_at l.self.map l.id ≡ drop count (left_at l.fn.self.map l.id));
  rows : SameRows l.fn.self.map l.self.map;
  tickets : l.self.map.tickets ≡ l.fn.self.map.tickets;
  others : (other : ℕ) → other ≢ l.id → block_books l.self.map other ≡ block_books l.fn.self.map other;
  choosing : ChoosesAsBefore l.fn.self l.self;
  goes_on : GoesOn g.D.PoolDisks l.fn.self.disks l.self.disks;
  foreign : LeavesForeign g.D.PoolDisks l.fn.self.disks l.self.disks;
}
