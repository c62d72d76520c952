-- A block on which the verdict is `Whole` has all its bytes.
use Rattle.std.proofs.Common.{◌≡◌, ◌<◌, ◌≤◌, ℕ, List, length, drop, sym, ◌∙◌, Option, Some, None, Result, Ok, Err, arith, ◌==◌, if◌then◌else◌, Bool, true, false}
use Rattle.std.proofs.lemmas.Bool.Decides.{nat_tests}
use Rattle.meta_file.specs.declared.header.Header.{Header}
use Rattle.meta_file.specs.declared.header.MetaFault.{MetaFault}
use Rattle.meta_file.specs.declared.verdict.Verdict.{Verdict}
use Rattle.meta_file.specs.declared.verdict.Verdict.TheVariants.{Whole, Count}
use Rattle.meta_file.specs.Headers.{header_of}
use Rattle.meta_file.specs.Verdicts.{length_verdict, chunk_verdict, verdict_with, verdict_of}

-- no chunk differs
by_chunks : (stored computed : ℕ → ℕ) (found : Option ℕ) (otherwise : Verdict) → chunk_verdict stored computed found otherwise ≡ Whole → otherwise ≡ Whole
by_chunks stored computed None otherwise whole = whole
by_chunks stored computed (Some chunk) otherwise whole = cc

-- there are as many checksums as must be
by_count : (b : Bool) (want have : ℕ) (otherwise : Verdict) → (if b then otherwise else Count want have) ≡ Whole → otherwise ≡ Whole
by_count true want have otherwise whole = whole
by_count false want have otherwise whole = cc

-- with checksums, or without
by_kind : (b : Bool) (plain otherwise : Verdict) → (otherwise ≡ Whole → plain ≡ Whole) → (if b then plain else otherwise) ≡ Whole → plain ≡ Whole
by_kind true plain otherwise summed whole = whole
by_kind false plain otherwise summed whole = summed whole

by_header : (read : Result Header MetaFault) (sums block : List ℕ) (len : ℕ) → verdict_with read sums block len ≡ Whole → length_verdict len (length block) ≡ Whole
by_header (Err fault) sums block len whole = cc
by_header (Ok header) sums block len whole =
    by_kind (header.kind == 0) _ _ (λ summed. by_chunks _ _ _ _ (by_count _ _ _ _ summed)) whole

by_length : (len have : ℕ) → length_verdict len have ≡ Whole → len ≤ have
by_length len have whole = grind (arith, nat_tests)

-- such a block has all its bytes
pub whole_is_long : (sums all : List ℕ) (len : ℕ) → verdict_of sums all len ≡ Whole → len ≤ length all
whole_is_long sums all len whole = by_length len (length all) (by_header (header_of sums) (drop 7 sums) all len whole)

-- so it isn't short
pub whole_is_not_short : (sums all : List ℕ) (len : ℕ) (verdict : Verdict) → verdict ≡ verdict_of sums all len → verdict ≡ Whole → length all < len → ⊥
whole_is_not_short sums all len verdict known whole few = omega (arith, few, whole_is_long sums all len (sym known ∙ whole))
