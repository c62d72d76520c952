use Rattle.std.proofs.Common.{◌≡◌, ℕ, List, length, None}
use Rattle.mem_disks.specs.Shelves.{held}
use Rattle.mem_disks.proofs.shelves.empty_shelves.Given as goal

abbrev pub invariant-loop-i : goal.invariant-loop-i
invariant-loop-i l = (length l.shelves.items ≡ l.i) × ((index : ℕ) (path : List ℕ) → held l.shelves.items index path ≡ None)
