use Rattle.std.proofs.Common.{◌≡◌, ◌++◌, ℕ, List, All, length}
use Rattle.std.specs.Ordering.{nat_cmp}
use Rattle.std.specs.BTreeMap.{IsOrdered}
use Rattle.std.specs.declared.alloc.Global.{Global}
use Rattle.std.specs.declared.vec.Vec.{Vec}
use Rattle.volume_layout.specs.Paths.{IsBlockId}
use Rattle.pool_survey.specs.declared.places.FoundOn.{FoundOn}
use Rattle.pool_survey.specs.Places.{ArePlaces}
use Rattle.pool_state.specs.Books.{block_books}
use Rattle.pool_open.specs.Found.{SaysFound, gathered}
use Rattle.pool_open.specs.Looking.{OnlyLooks}
use Rattle.pool_open.proofs.Adding.{places_among}
use Rattle.pool_open.proofs.Rows.{RowsRise}
use Rattle.pool_open.proofs.Numbers.{Drawn}
use Rattle.pool_open.proofs.books.make_books.Given as goal

abbrev pub invariant-loop-id : goal.invariant-loop-id
invariant-loop-id g l = record {
  ids : All (λ entry. IsBlockId entry.0) l.id-iterator;
  places : All (λ entry. ArePlaces (g.D.PoolDisks.volume_count l.fn.disks) entry.1.items) l.id-iterator;
  ordered : IsOrdered nat_cmp l.blocks;
  passed : List (ℕ × Vec FoundOn Global);
  split : passed ++ l.id-iterator ≡ l.blocks.entries;
  says : (id : ℕ) → SaysFound (g.D.PoolDisks.worlds l.disks) id (places_among passed id) (block_books (gathered l.rows.items l.leftovers.items) id);
  rise : RowsRise l.rows.items l.id-iterator;
  drawn : Drawn l.first_rev (block_books (gathered l.rows.items l.leftovers.items)) (length l.rows.items) l.id-iterator;
  looks : OnlyLooks g.D.PoolDisks l.fn.disks l.disks;
}
