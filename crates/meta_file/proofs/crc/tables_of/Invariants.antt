use Rattle.std.proofs.Common.{◌≡◌, ℕ, ◌<◌, ◌+◌, ◌*◌, ◌/◌, ◌%◌, length, get_or}
use Rattle.meta_file.specs.Tables.{bit_steps}
use Rattle.meta_file.proofs.crc.tables_of.Given as goal

abbrev pub invariant-loop-k : goal.invariant-loop-k
invariant-loop-k l = (length l.tables ≡ 2048) × ((m : ℕ) → m < l.k → get_or l.tables m 0 ≡ bit_steps l.fn.poly 8 m)

abbrev pub invariant-loop-i : goal.invariant-loop-i
invariant-loop-i l = (length l.tables ≡ 2048) × ((m : ℕ) → m < l.i → get_or l.tables m 0 ≡ bit_steps l.fn.poly (8 * (m / 256) + 8) (m % 256))
