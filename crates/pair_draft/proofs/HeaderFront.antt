-- The header of a meta file stands in its first seven bytes.
use Rattle.std.proofs.Common.{◌≡◌, ℕ, ◌≤◌, List, [], ◌∷◌, length, take, drop, refl, sym, ap, ◌∙◌, arith, inl, inr}
use Rattle.std.specs.Prelude.{min, slice_index}
use Rattle.std.proofs.lemmas.Bool.{cases_lt}
use Rattle.std.proofs.lemmas.Bool.Decides.{nat_tests}
use Rattle.std.proofs.lemmas.List.{take_all, take-take, drop-take, length-take-le}
use Rattle.meta_file.specs.Checksums.{big_endian}
use Rattle.meta_file.specs.Headers.{header_of, header_with}

-- enough bytes
long : (bytes : List ℕ) → 7 ≤ length bytes → header_of bytes ≡ header_with (big_endian 0 (take 2 bytes)) (slice_index bytes 2) (big_endian 0 (take 4 (drop 3 bytes)))
long bytes enough = grind (arith, nat_tests)

third : (bytes : List ℕ) → 7 ≤ length bytes → slice_index (take 7 bytes) 2 ≡ slice_index bytes 2
third [] enough = absurd (omega arith)
third (a ∷ []) enough = absurd (omega arith)
third (a ∷ b ∷ []) enough = absurd (omega arith)
third (a ∷ b ∷ c ∷ rest) enough = refl

seven : (bytes : List ℕ) → 7 ≤ length bytes → header_of (take 7 bytes) ≡ header_of bytes
seven bytes enough =
    let full : length (take 7 bytes) ≡ 7 = length-take-le 7 bytes enough in
    let step : take 4 (drop 3 (take 7 bytes)) ≡ take 4 (drop 3 bytes) =
    ap (take 4) (drop-take 3 4 bytes) ∙ take-take 4 4 (drop 3 bytes) (omega arith)
    in
    long (take 7 bytes) (omega (arith, full))
    ∙ ap (λ (l : List ℕ). header_with (big_endian 0 l) (slice_index (take 7 bytes) 2) (big_endian 0 (take 4 (drop 3 (take 7 bytes))))) (take-take 2 7 bytes (omega arith))
    ∙ ap (λ (n : ℕ). header_with (big_endian 0 (take 2 bytes)) n (big_endian 0 (take 4 (drop 3 (take 7 bytes))))) (third bytes enough)
    ∙ ap (λ (l : List ℕ). header_with (big_endian 0 (take 2 bytes)) (slice_index bytes 2) (big_endian 0 l)) step
    ∙ sym (long bytes enough)

-- the header that the first bytes have
pub header_front : (read all : List ℕ) (n : ℕ) → n ≡ min 7 (length all) → take n read ≡ take n all → header_of (take n read) ≡ header_of all
header_front read all n is same = elim (cases_lt (length all) 7) [
  | inl few ↦
      let whole : n ≡ length all = omega (arith, is, few) in
      ap header_of (same ∙ take_all n all (omega (arith, whole)))
  | inr enough ↦
      let first : n ≡ 7 = omega (arith, is, enough) in
      ap header_of (same ∙ ap (λ (m : ℕ). take m all) first) ∙ seven all enough
]
