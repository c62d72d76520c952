-- The verdict on a block by its meta file: the first that applies.
use Rattle.std.specs.Prelude.{ℕ, zero, suc, ◌+◌, ◌*◌, ◌/◌, ◌≡◌, ◌≢◌, ◌<◌, ◌≤◌, ◌==◌, ◌↔◌, nat_lt, min, List, length, take, drop, Option, Some, None, Result, Ok, Err, if◌then◌else◌}
use Rattle.meta_file.specs.Checksums.{crc, big_endian, chunk_count, Matches}
use Rattle.meta_file.specs.declared.header.Header.{Header}
use Rattle.meta_file.specs.declared.header.MetaFault.{MetaFault}
use Rattle.meta_file.specs.declared.verdict.Verdict.{Verdict}
use Rattle.meta_file.specs.declared.verdict.Verdict.TheVariants.{Whole, BadChunk, Count, Short, Meta}
use Rattle.meta_file.specs.Headers.{header_of}
use Rattle.meta_file.specs.Sums.{polynomial}

-- the checksum that is stored for a chunk, counted from 0
abbrev pub stored_sum : List ℕ → ℕ → ℕ
stored_sum sums chunk = big_endian 0 (take 4 (drop (4 * chunk) sums))

-- the checksum of a chunk's bytes
abbrev pub chunk_sum : ℕ → ℕ → List ℕ → ℕ → ℕ
chunk_sum poly step bytes chunk = crc poly (take step (drop (step * chunk) bytes))

-- the two lists have the same checksums
abbrev pub SameSums : List ℕ → List ℕ → Type 0
SameSums stored computed = (k : ℕ) → 4 * k + 4 ≤ length stored → stored_sum stored k ≡ stored_sum computed k

-- these are the first two checksums of the lists that differ
pub record IsFirstDifference (stored computed : List ℕ) (place one other : ℕ) : Type 0 where
  pub before : (k : ℕ) → k < place → stored_sum stored k ≡ stored_sum computed k
  pub within : 4 * place + 4 ≤ length stored
  pub stored_is : one ≡ stored_sum stored place
  pub computed_is : other ≡ stored_sum computed place
  pub differ : one ≢ other

-- of so many chunks from this one on, the first whose checksums differ
abbrev pub first_different : (ℕ → ℕ) → (ℕ → ℕ) → ℕ → ℕ → Option ℕ
first_different stored computed chunk zero = None
first_different stored computed chunk (suc more) =
    if stored chunk == computed chunk then first_different stored computed (chunk + 1) more else Some chunk

-- how many chunks have all their bytes, where a block is to have `len` bytes and gave `have`
abbrev pub given_chunks : ℕ → ℕ → ℕ → ℕ
given_chunks step len have = if nat_lt have len then have / step else chunk_count step len

-- the verdict where nothing but missing bytes can be wrong
abbrev pub length_verdict : ℕ → ℕ → Verdict
length_verdict len have = if nat_lt have len then Short len have else Whole

-- the verdict where this chunk is the first whose checksums differ
abbrev pub chunk_verdict : (ℕ → ℕ) → (ℕ → ℕ) → Option ℕ → Verdict → Verdict
chunk_verdict stored computed (Some chunk) otherwise = BadChunk chunk (stored chunk) (computed chunk)
chunk_verdict stored computed None otherwise = otherwise

-- the verdict where each chunk has a stored checksum
abbrev pub sums_verdict : ℕ → ℕ → List ℕ → List ℕ → ℕ → Verdict
sums_verdict poly step sums block len =
    let stored = stored_sum sums in
    let computed = chunk_sum poly step (take len block) in
    chunk_verdict stored computed (first_different stored computed 0 (given_chunks step len (length block))) (length_verdict len (length block))

-- the verdict where so many bytes must follow the header and so many do
abbrev pub count_verdict : ℕ → ℕ → Verdict → Verdict
count_verdict want have otherwise = if have == want then otherwise else Count want (min have (want + 1))

-- the verdict under a header with these bytes behind it; of type 0 they aren't looked at
abbrev pub verdict_under : Header → List ℕ → List ℕ → ℕ → Verdict
verdict_under header sums block len =
    if header.kind == 0 then length_verdict len (length block)
    else count_verdict (4 * chunk_count header.step len) (length sums) (sums_verdict (polynomial header.kind) header.step sums block len)

-- the verdict where the header is read so
abbrev pub verdict_with : Result Header MetaFault → List ℕ → List ℕ → ℕ → Verdict
verdict_with (Err fault) sums block len = Meta fault
verdict_with (Ok header) sums block len = verdict_under header sums block len

-- the verdict on the first `len` bytes of a block by its meta file
abbrev pub verdict_of : List ℕ → List ℕ → ℕ → Verdict
verdict_of meta block len = verdict_with (header_of meta) (drop 7 meta) block len

-- a meta file matches the bytes of a block exactly where the verdict on all of them is `Whole`
abbrev pub WholeIsMatch : Type 0
WholeIsMatch = (meta block : List ℕ) → (verdict_of meta block (length block) ≡ Whole) ↔ Matches meta block
