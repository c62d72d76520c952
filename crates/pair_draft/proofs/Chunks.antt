-- Chunks, and the checksums that stand for them.
use Rattle.std.proofs.Common.{◌≡◌, ℕ, zero, suc, ◌+◌, ◌-◌, ◌*◌, ◌/◌, ◌%◌, ◌<◌, ◌≤◌, List, ◌++◌, length, take, drop, sym, ap, subst, append_assoc, ◌∙◌, arith, length-append, length-take, length-drop}
use Rattle.std.proofs.Math.Nat.{mod-lt, mul-le-mul_left, mul-div-le}
use Rattle.std.proofs.Math.Seq.{take-add, drop-append-add}
use Rattle.std.proofs.lemmas.Nat.{div-mul-add}
use Rattle.std.proofs.lemmas.Bool.Decides.{nat_tests}
use Rattle.std.proofs.lemmas.List.{take-take, drop-take, length-take-le}
use Rattle.meta_file.specs.Checksums.{crc, big_endian, chunk_count, HasSums, SumsMatch}
use Rattle.meta_file.specs.Sums.{Progress, polynomial, SummedBy, Summed, Gives, Ends}
use Rattle.meta_file.specs.Verdicts.{stored_sum, chunk_sum, given_chunks}
use Rattle.pair_draft.specs.Checking.{TakenIn, AreSums}

-- checksums behind others
pub stored_sum-behind : (given sums : List ℕ) (first k : ℕ) → length given ≡ 4 * first → stored_sum (given ++ sums) (first + k) ≡ stored_sum sums k
stored_sum-behind given sums first k four =
    let there : 4 * (first + k) ≡ length given + 4 * k = omega (arith, four) in
    ap (λ (n : ℕ). big_endian 0 (take 4 (drop n (given ++ sums)))) there
    ∙ ap (λ (l : List ℕ). big_endian 0 (take 4 l)) (drop-append-add given sums (4 * k))

-- a chunk that ends within the first bytes
pub chunk_sum-front : (poly step n : ℕ) (bytes : List ℕ) (chunk : ℕ) → step * chunk + step ≤ n → chunk_sum poly step (take n bytes) chunk ≡ chunk_sum poly step bytes chunk
chunk_sum-front poly step n bytes chunk fits =
    let parts : n ≡ step * chunk + (n - step * chunk) = omega arith in
    let same : take step (drop (step * chunk) (take n bytes)) ≡ take step (drop (step * chunk) bytes) =
    ap (λ (m : ℕ). take step (drop (step * chunk) (take m bytes))) parts
    ∙ ap (take step) (drop-take (step * chunk) (n - step * chunk) bytes)
    ∙ take-take step (n - step * chunk) (drop (step * chunk) bytes) (omega arith)
    in
    ap (crc poly) same

-- a chunk before others ends before them
pub ends_within : (step chunk n : ℕ) → chunk < n / step → step * chunk + step ≤ n
ends_within step chunk n below =
    let up : chunk + 1 ≤ n / step = omega (arith, below) in
    let more = mul-le-mul_left step up in
    let most = mul-div-le n step in
    omega (arith, more, most)

-- what a summer gave out are the checksums of the chunks that are full
pub given_is : (kind : ℕ) (p : Progress) (given bytes : List ℕ) → 0 < kind → 0 < p.step → p.filled ≡ length bytes % p.step
    → SummedBy kind p given bytes
    → (length given ≡ 4 * (length bytes / p.step)) × ((chunk : ℕ) → chunk < length bytes / p.step → stored_sum given chunk ≡ chunk_sum (polynomial kind) p.step bytes chunk)
given_is zero p given bytes some stepped filled h = absurd (omega arith)
given_is (suc kind) p given bytes some stepped filled h =
    let parted = h.parted in
    let below : length bytes % p.step < p.step = mod-lt (length bytes) stepped in
    let as_parts : length bytes ≡ h.chunks * p.step + p.filled = omega arith in
    let chunks : length bytes / p.step ≡ h.chunks =
    ap (λ (n : ℕ). n / p.step) as_parts ∙ div-mul-add h.chunks p.step p.filled (omega (arith, below, filled))
    in
    let count = h.count in (
      omega (arith, count, chunks),
      λ chunk low. h.each chunk (omega (arith, low, chunks)),
    )

-- the last checksums are those of all chunks
pub all_are : (kind step : ℕ) (sums bytes : List ℕ) → 0 < kind → SumsMatch kind step sums bytes → HasSums (polynomial kind) step sums bytes
all_are zero step sums bytes some matches = absurd (omega arith)
all_are (suc zero) step sums bytes some matches = matches
all_are (suc (suc kind)) step sums bytes some matches = matches

module _ (p q : Progress) (at : ℕ) (piece added block : List ℕ) (gives : Gives p q piece added) (taken : TakenIn p at block)
    (is : piece ≡ take (length piece) (drop at block)) where
  joined : take at block ++ piece ≡ take (at + length piece) block
  joined = ap (λ (l : List ℕ). take at block ++ l) is ∙ sym (take-add at (length piece) block)

  pub reaches : at + length piece ≤ length block
  reaches =
      let len = ap length is ∙ length-take (length piece) (drop at block) in
      let within = taken.within in
      omega (arith, len, length-drop at block, within)

  summed : Summed q (taken.given ++ added) (take (at + length piece) block)
  summed = subst (λ (b : List ℕ). Summed q (taken.given ++ added) b) joined (gives taken.given (take at block) taken.summed)

  pub taken_in : TakenIn q (at + length piece) block
  taken_in = record { within = reaches; given = taken.given ++ added; summed = summed }

  module _ (len : ℕ) (some : 0 < p.kind) (stepped : 0 < p.step) (kind : q.kind ≡ p.kind) (step : q.step ≡ p.step)
      (filled : p.filled ≡ at % p.step) where
    first_given : length taken.given ≡ 4 * (at / p.step)
    first_given =
        let within = taken.within in
        let same : length (take at block) ≡ at = length-take-le at block within in
        let old = given_is p.kind p taken.given (take at block) some stepped (filled ∙ ap (λ (n : ℕ). n % p.step) (sym same)) taken.summed in
        old.0 ∙ ap (λ (n : ℕ). 4 * (n / p.step)) same

    -- where bytes are left, the chunks that are full end
    pub sums_inside : q.filled ≡ (at + length piece) % p.step → at + length piece < len
        → AreSums (polynomial p.kind) p.step len (at + length piece) (at / p.step) block added
    sums_inside next_filled left =
        let now = at + length piece in
        let same : length (take now block) ≡ now = length-take-le now block reaches in
        let full : q.filled ≡ length (take now block) % q.step =
        next_filled ∙ ap (λ (n : ℕ). n % p.step) (sym same) ∙ ap (λ (n : ℕ). length (take now block) % n) (sym step)
        in
        let new = given_is q.kind q (taken.given ++ added) (take now block) (omega (arith, kind, some)) (omega (arith, step, stepped)) full summed in
        let chunks : length (take now block) / q.step ≡ now / p.step =
        ap (λ (n : ℕ). n / q.step) same ∙ ap (λ (n : ℕ). now / n) step
        in
        let given : given_chunks p.step len now ≡ now / p.step = grind (arith, nat_tests) in
        let counted : length (taken.given ++ added) ≡ 4 * (now / p.step) = new.0 ∙ ap (λ (n : ℕ). 4 * n) chunks in
        let count : length added + 4 * (at / p.step) ≡ 4 * (now / p.step) = omega (arith, counted, first_given, length-append taken.given added) in
        record {
          count = omega (arith, count, given);
          each = λ k fits.
              let low : at / p.step + k < now / p.step = omega (arith, count, fits) in
              let below : at / p.step + k < length (take now block) / q.step = omega (arith, low, chunks) in
              let end = ends_within p.step (at / p.step + k) now low in
              sym (stored_sum-behind taken.given added (at / p.step) k first_given)
              ∙ new.1 (at / p.step + k) below
              ∙ ap (λ (n : ℕ). chunk_sum (polynomial n) q.step (take now block) (at / p.step + k)) kind
              ∙ ap (λ (n : ℕ). chunk_sum (polynomial p.kind) n (take now block) (at / p.step + k)) step
              ∙ chunk_sum-front (polynomial p.kind) p.step now block (at / p.step + k) end
              ∙ sym (chunk_sum-front (polynomial p.kind) p.step len block (at / p.step + k) (omega (arith, end, left)));
        }

    -- with the last byte all chunks end
    pub sums_at_end : (rest : List ℕ) → Ends q rest → at + length piece ≡ len
        → AreSums (polynomial p.kind) p.step len (at + length piece) (at / p.step) block (added ++ rest)
    sums_at_end rest ends last =
        let now = at + length piece in
        let same : length (take now block) ≡ now = length-take-le now block reaches in
        let has = all_are q.kind q.step ((taken.given ++ added) ++ rest) (take now block) (omega (arith, kind, some)) (ends (taken.given ++ added) (take now block) summed) in
        let chunks : chunk_count q.step (length (take now block)) ≡ chunk_count p.step len =
        ap (λ (n : ℕ). chunk_count q.step n) (same ∙ last) ∙ ap (λ (n : ℕ). chunk_count n len) step
        in
        let given : given_chunks p.step len now ≡ chunk_count p.step len = grind (arith, nat_tests) in
        let has_count = has.count in
        let count : length (added ++ rest) + 4 * (at / p.step) ≡ 4 * chunk_count p.step len =
        omega (arith, has_count, chunks, first_given, length-append (taken.given ++ added) rest, length-append taken.given added, length-append added rest)
        in
        record {
          count = omega (arith, count, given);
          each = λ k fits.
              let below : at / p.step + k < chunk_count q.step (length (take now block)) = omega (arith, count, chunks, fits) in
              sym (stored_sum-behind taken.given (added ++ rest) (at / p.step) k first_given)
              ∙ ap (λ (l : List ℕ). stored_sum l (at / p.step + k)) (sym (append_assoc taken.given added rest))
              ∙ has.each (at / p.step + k) below
              ∙ ap (λ (n : ℕ). chunk_sum (polynomial n) q.step (take now block) (at / p.step + k)) kind
              ∙ ap (λ (n : ℕ). chunk_sum (polynomial p.kind) n (take now block) (at / p.step + k)) step
              ∙ ap (λ (n : ℕ). chunk_sum (polynomial p.kind) p.step (take n block) (at / p.step + k)) last;
        }
