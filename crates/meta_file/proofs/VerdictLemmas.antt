-- Which verdict applies, and that it is `Whole` exactly where the meta file matches.
use Rattle.std.proofs.Common.{◌≡◌, ◌≢◌, ℕ, zero, suc, ◌+◌, ◌*◌, ◌<◌, ◌≤◌, List, length, take, drop, refl, sym, ap, subst, ◌∙◌, arith}
use Rattle.std.specs.Prelude.{◌==◌, true, false, Option, Some, None, Result, Ok, Err}
use Rattle.std.proofs.lemmas.Bool.Decides.{Decides-eqb, nat_tests}
use Rattle.std.proofs.lemmas.List.{take_all}
use Rattle.meta_file.specs.Checksums.{chunk_count, castagnoli, ethernet, HeaderIs, HasSums, SumsMatch, Matches}
use Rattle.meta_file.specs.declared.header.Header.{Header}
use Rattle.meta_file.specs.declared.header.MetaFault.{MetaFault}
use Rattle.meta_file.specs.declared.verdict.Verdict.{Verdict}
use Rattle.meta_file.specs.declared.verdict.Verdict.TheVariants.{Whole}
use Rattle.meta_file.specs.Headers.{header_of}
use Rattle.meta_file.specs.Verdicts.{stored_sum, chunk_sum, first_different, given_chunks, length_verdict, chunk_verdict, sums_verdict, count_verdict, verdict_under, verdict_with, verdict_of, WholeIsMatch}

module _ (stored computed : ℕ → ℕ) where
  same_test : (chunk : ℕ) → stored chunk ≡ computed chunk → (stored chunk == computed chunk) ≡ true
  same_test chunk same = (Decides-eqb (stored chunk) (computed chunk)).1 same

  differ_test : (chunk : ℕ) → stored chunk ≢ computed chunk → (stored chunk == computed chunk) ≡ false
  differ_test chunk differ = grind (arith, nat_tests)

  -- where all agree, none is the first that differs
  pub first_different-none : (chunk more : ℕ) → ((k : ℕ) → k < more → stored (chunk + k) ≡ computed (chunk + k))
      → first_different stored computed chunk more ≡ None
  first_different-none chunk zero agree = refl
  first_different-none chunk (suc more) agree =
      let here : chunk + 0 ≡ chunk = omega arith in
      let same : stored chunk ≡ computed chunk = subst (λ (i : ℕ). stored i ≡ computed i) here (agree 0 (omega arith)) in
      rw (same_test chunk same)
      (first_different-none (chunk + 1) more
      (λ k below. let there : chunk + suc k ≡ chunk + 1 + k = omega arith in
      subst (λ (i : ℕ). stored i ≡ computed i) there (agree (suc k) (omega arith))))

  -- the first that differs is found
  pub first_different-some : (chunk more found : ℕ) → ((k : ℕ) → k < found → stored (chunk + k) ≡ computed (chunk + k)) → found < more
      → stored (chunk + found) ≢ computed (chunk + found) → first_different stored computed chunk more ≡ Some (chunk + found)
  first_different-some chunk zero found agree below differ = absurd (omega arith)
  first_different-some chunk (suc more) zero agree below differ =
      let here : chunk + 0 ≡ chunk = omega arith in
      let now : stored chunk ≢ computed chunk = subst (λ (i : ℕ). stored i ≢ computed i) here differ in
      rw (differ_test chunk now) (ap Some (sym here))
  first_different-some chunk (suc more) (suc found) agree below differ =
      let here : chunk + 0 ≡ chunk = omega arith in
      let same : stored chunk ≡ computed chunk = subst (λ (i : ℕ). stored i ≡ computed i) here (agree 0 (omega arith)) in
      let last : chunk + suc found ≡ chunk + 1 + found = omega arith in
      rw (same_test chunk same)
      (first_different-some (chunk + 1) more found
      (λ k low. let there : chunk + suc k ≡ chunk + 1 + k = omega arith in
      subst (λ (i : ℕ). stored i ≡ computed i) there (agree (suc k) (omega arith)))
      (omega arith)
      (subst (λ (i : ℕ). stored i ≢ computed i) last differ) ∙ ap Some (sym last))

  -- where none differs, all agree
  pub first_different-agree : (chunk more : ℕ) → first_different stored computed chunk more ≡ None
      → (k : ℕ) → k < more → stored (chunk + k) ≡ computed (chunk + k)
  first_different-agree chunk zero none k below = absurd (omega arith)
  first_different-agree chunk (suc more) none zero below =
      let here : chunk + 0 ≡ chunk = omega arith in
      subst (λ (i : ℕ). stored i ≡ computed i) (sym here) (grind (arith, nat_tests))
  first_different-agree chunk (suc more) none (suc k) below =
      let same : stored chunk ≡ computed chunk = grind (arith, nat_tests) in
      let rest = rw (same_test chunk same) at none in
      let there : chunk + 1 + k ≡ chunk + suc k = omega arith in
      subst (λ (i : ℕ). stored i ≡ computed i) there (first_different-agree (chunk + 1) more rest k (omega arith))

  -- no chunk differs where the verdict is `Whole`
  none_differs : (found : Option ℕ) (otherwise : Verdict) → chunk_verdict stored computed found otherwise ≡ Whole → found ≡ None
  none_differs (Some chunk) otherwise whole = cc
  none_differs None otherwise whole = refl

-- all bytes are given
pub given_all : (step len have : ℕ) → len ≤ have → given_chunks step len have ≡ chunk_count step len
given_all step len have all = grind (arith, nat_tests)

pub length_whole : (len have : ℕ) → len ≤ have → length_verdict len have ≡ Whole
length_whole len have all = grind (arith, nat_tests)

-- so many checksums as must be
pub counted : (want have : ℕ) (otherwise : Verdict) → have ≡ want → count_verdict want have otherwise ≡ otherwise
counted want have otherwise same = grind (arith, nat_tests)

counted_whole : (want have : ℕ) (otherwise : Verdict) → count_verdict want have otherwise ≡ Whole → (have ≡ want) × (otherwise ≡ Whole)
counted_whole want have otherwise whole = (grind (arith, nat_tests), grind (arith, nat_tests))

-- ---- the checksums

module _ (poly step : ℕ) (sums block : List ℕ) where
  verdict_on : List ℕ → Verdict
  verdict_on bytes =
      chunk_verdict (stored_sum sums) (chunk_sum poly step bytes)
      (first_different (stored_sum sums) (chunk_sum poly step bytes) 0 (given_chunks step (length block) (length block)))
      (length_verdict (length block) (length block))

  all_taken : take (length block) block ≡ block
  all_taken = take_all (length block) block (omega arith)

  sums_agree : sums_verdict poly step sums block (length block) ≡ Whole → (chunk : ℕ) → chunk < chunk_count step (length block)
      → stored_sum sums chunk ≡ chunk_sum poly step block chunk
  unfolding verdict_on
  sums_agree whole chunk below =
      let on_all : verdict_on block ≡ Whole = subst (λ (bytes : List ℕ). verdict_on bytes ≡ Whole) all_taken whole in
      let none : first_different (stored_sum sums) (chunk_sum poly step block) 0 (given_chunks step (length block) (length block)) ≡ None =
      none_differs (stored_sum sums) (chunk_sum poly step block) _ (length_verdict (length block) (length block)) on_all
      in
      let given : chunk < given_chunks step (length block) (length block) = omega (arith, given_all step (length block) (length block) (omega arith)) in
      let start : 0 + chunk ≡ chunk = omega arith in
      subst (λ (i : ℕ). stored_sum sums i ≡ chunk_sum poly step block i) start
      (first_different-agree (stored_sum sums) (chunk_sum poly step block) 0 (given_chunks step (length block) (length block)) none chunk given)

  sums_whole : ((chunk : ℕ) → chunk < chunk_count step (length block) → stored_sum sums chunk ≡ chunk_sum poly step block chunk)
      → sums_verdict poly step sums block (length block) ≡ Whole
  unfolding verdict_on
  sums_whole agree =
      let given = given_all step (length block) (length block) (omega arith) in
      let none : first_different (stored_sum sums) (chunk_sum poly step block) 0 (given_chunks step (length block) (length block)) ≡ None =
      first_different-none (stored_sum sums) (chunk_sum poly step block) 0 (given_chunks step (length block) (length block))
      (λ k below. let start : k ≡ 0 + k = omega arith in
      subst (λ (i : ℕ). stored_sum sums i ≡ chunk_sum poly step block i) start (agree k (omega arith)))
      in
      let on_all : verdict_on block ≡ Whole =
      ap (λ (found : Option ℕ). chunk_verdict (stored_sum sums) (chunk_sum poly step block) found (length_verdict (length block) (length block))) none
      ∙ length_whole (length block) (length block) (omega arith)
      in
      subst (λ (bytes : List ℕ). verdict_on bytes ≡ Whole) (sym all_taken) on_all

  counted_agree : count_verdict (4 * chunk_count step (length block)) (length sums) (sums_verdict poly step sums block (length block)) ≡ Whole
      → HasSums poly step sums block
  counted_agree whole =
      let both = counted_whole (4 * chunk_count step (length block)) (length sums) (sums_verdict poly step sums block (length block)) whole in
      record { count = both.0; each = sums_agree both.1 }

  agreed_count : HasSums poly step sums block
      → count_verdict (4 * chunk_count step (length block)) (length sums) (sums_verdict poly step sums block (length block)) ≡ Whole
  agreed_count has =
      counted (4 * chunk_count step (length block)) (length sums) (sums_verdict poly step sums block (length block)) has.count
      ∙ sums_whole has.each

-- ---- the header

-- a header that is read stands there
pub header_is : (meta : List ℕ) (header : Header) → header_of meta ≡ Ok header → HeaderIs meta header.kind header.step
header_is meta header is = record {
  whole = grind (arith, nat_tests);
  version = grind (arith, nat_tests);
  kind_is = grind (arith, nat_tests);
  step_is = grind (arith, nat_tests);
  in_range = grind (arith, nat_tests);
}

-- a header that stands there is read
is_header : (meta : List ℕ) (kind step : ℕ) → HeaderIs meta kind step → header_of meta ≡ Ok (record { kind = kind; step = step })
is_header meta kind step stands = grind (arith, nat_tests)

under_matches : (kind step : ℕ) (sums block : List ℕ) → verdict_under (record { kind = kind; step = step }) sums block (length block) ≡ Whole
    → SumsMatch kind step sums block
under_matches zero step sums block whole = tt
under_matches (suc zero) step sums block whole = counted_agree ethernet step sums block whole
under_matches (suc (suc kind)) step sums block whole =
    let some : (suc (suc kind) == 0) ≡ false = grind (arith, nat_tests) in
    counted_agree castagnoli step sums block (rw some at whole)

matches_under : (kind step : ℕ) (sums block : List ℕ) → SumsMatch kind step sums block
    → verdict_under (record { kind = kind; step = step }) sums block (length block) ≡ Whole
matches_under zero step sums block matches = length_whole (length block) (length block) (omega arith)
matches_under (suc zero) step sums block matches = agreed_count ethernet step sums block matches
matches_under (suc (suc kind)) step sums block matches =
    let some : (suc (suc kind) == 0) ≡ false = grind (arith, nat_tests) in
    rw some (agreed_count castagnoli step sums block matches)

with_matches : (meta block : List ℕ) (read : Result Header MetaFault) → header_of meta ≡ read
    → verdict_with read (drop 7 meta) block (length block) ≡ Whole → Matches meta block
with_matches meta block (Err fault) is whole = cc
with_matches meta block (Ok header) is whole =
    (header.kind, header.step, header_is meta header is, under_matches header.kind header.step (drop 7 meta) block whole)

matches_whole : (meta block : List ℕ) → Matches meta block → verdict_of meta block (length block) ≡ Whole
matches_whole meta block matches =
    ap (λ (read : Result Header MetaFault). verdict_with read (drop 7 meta) block (length block)) (is_header meta matches.0 matches.1 matches.2)
    ∙ matches_under matches.0 matches.1 (drop 7 meta) block matches.3

pub whole_is_match : WholeIsMatch
whole_is_match meta block = (with_matches meta block (header_of meta) refl, matches_whole meta block)
