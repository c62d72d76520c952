-- The checksums of chunks, as bytes come in.
use Rattle.std.specs.Prelude.{◌≡◌, ◌<◌, ℕ, zero, suc, ◌+◌, ◌*◌, List, [], ◌++◌, length, take, drop}
use Rattle.meta_file.specs.Checksums.{crc, crc_from, castagnoli, ethernet, big_endian, SumsMatch}

-- the polynomial of a type
abbrev pub polynomial : ℕ → ℕ
polynomial zero = 0
polynomial (suc zero) = ethernet
polynomial (suc (suc kind)) = castagnoli

-- where a summer is: its type and step, and of the chunk that isn't full yet how many bytes it has and their register
pub record Progress : Type 0 where
  pub kind : ℕ
  pub step : ℕ
  pub filled : ℕ
  pub register : ℕ

-- of the bytes that came in, each full chunk has its checksum, and the register is that of the rest
pub record HasSummed (poly : ℕ) (p : Progress) (sums bytes : List ℕ) : Type 0 where
  pub chunks : ℕ
  pub parted : length bytes ≡ p.step * chunks + p.filled
  pub register : p.register ≡ crc_from poly 0xffff_ffff (drop (p.step * chunks) bytes)
  pub count : length sums ≡ 4 * chunks
  pub each : (chunk : ℕ) → chunk < chunks →
      big_endian 0 (take 4 (drop (4 * chunk) sums)) ≡ crc poly (take p.step (drop (p.step * chunk) bytes))

abbrev pub SummedBy : ℕ → Progress → List ℕ → List ℕ → Type 0
SummedBy zero p sums bytes = sums ≡ []
SummedBy (suc kind) p sums bytes = HasSummed (polynomial (suc kind)) p sums bytes

-- these are the checksums that a summer gave out for these bytes; of type 0 there are none
abbrev pub Summed : Progress → List ℕ → List ℕ → Type 0
Summed p sums bytes = SummedBy p.kind p sums bytes

-- these are the checksums that a piece completed, whatever came in before it
abbrev pub Gives : Progress → Progress → List ℕ → List ℕ → Type 0
Gives old new piece added = (sums bytes : List ℕ) → Summed old sums bytes → Summed new (sums ++ added) (bytes ++ piece)

-- these are the checksums that the bytes still lacked
abbrev pub Ends : Progress → List ℕ → Type 0
Ends p added = (sums bytes : List ℕ) → Summed p sums bytes → SumsMatch p.kind p.step (sums ++ added) bytes

-- what was added to `before` are the checksums that a piece completed
abbrev pub Adds : Progress → Progress → List ℕ → List ℕ → List ℕ → Type 0
Adds old new piece before now = (added : List ℕ) × (now ≡ before ++ added) × Gives old new piece added

-- what was added to `before` are the checksums that the bytes still lacked
abbrev pub Completes : Progress → List ℕ → List ℕ → Type 0
Completes p before now = (added : List ℕ) × (now ≡ before ++ added) × Ends p added
