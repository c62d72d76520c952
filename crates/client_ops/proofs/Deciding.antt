-- What decides a verdict: the length of the block, or its meta file.
use Rattle.std.proofs.Common.{◌≡◌, ◌⊎◌, inl, inr, ◌<◌, ◌≤◌, ℕ, List, length, drop, Option, Some, None, Result, Ok, Err, OnOk, refl, subst, arith, ◌==◌, if◌then◌else◌, Bool, true, false}
use Rattle.std.proofs.lemmas.Bool.Decides.{nat_tests}
use Rattle.meta_file.specs.declared.header.Header.{Header}
use Rattle.meta_file.specs.declared.header.MetaFault.{MetaFault}
use Rattle.meta_file.specs.declared.verdict.Verdict.{Verdict}
use Rattle.meta_file.specs.declared.verdict.Verdict.TheVariants.{Whole, BadChunk, Count, Short, Meta}
use Rattle.meta_file.specs.Headers.{header_of}
use Rattle.meta_file.specs.Verdicts.{length_verdict, chunk_verdict, verdict_with, verdict_of}

-- a verdict that speaks of the meta file
abbrev IsOfMeta : Verdict → Type 0
IsOfMeta Whole = ⊥
IsOfMeta (BadChunk chunk stored computed) = Unit {0}
IsOfMeta (Count want have) = Unit {0}
IsOfMeta (Short want have) = ⊥
IsOfMeta (Meta fault) = Unit {0}

-- the length decided, or the meta file did
abbrev IsDecided : ℕ → ℕ → Verdict → Type 0
IsDecided len have verdict = (verdict ≡ length_verdict len have) ⊎ IsOfMeta verdict

chunks_decide : (len have : ℕ) (stored computed : ℕ → ℕ) (found : Option ℕ) (otherwise : Verdict) → IsDecided len have otherwise → IsDecided len have (chunk_verdict stored computed found otherwise)
chunks_decide len have stored computed None otherwise decided = decided
chunks_decide len have stored computed (Some chunk) otherwise decided = inr tt

count_decides : (b : Bool) (len have want count : ℕ) (otherwise : Verdict) → IsDecided len have otherwise → IsDecided len have (if b then otherwise else Count want count)
count_decides true len have want count otherwise decided = decided
count_decides false len have want count otherwise decided = inr tt

kind_decides : (b : Bool) (len have : ℕ) (otherwise : Verdict) → IsDecided len have otherwise → IsDecided len have (if b then length_verdict len have else otherwise)
kind_decides true len have otherwise decided = inl refl
kind_decides false len have otherwise decided = decided

header_decides : (read : Result Header MetaFault) (sums block : List ℕ) (len : ℕ) → IsDecided len (length block) (verdict_with read sums block len)
header_decides (Err fault) sums block len = inr tt
header_decides (Ok header) sums block len =
    kind_decides (header.kind == 0) len (length block) _ (count_decides _ len (length block) _ _ _ (chunks_decide len (length block) _ _ _ _ (inl refl)))

decided : (sums all : List ℕ) (len : ℕ) → IsDecided len (length all) (verdict_of sums all len)
decided sums all len = header_decides (header_of sums) (drop 7 sums) all len

whole_length : (len have : ℕ) → Whole ≡ length_verdict len have → len ≤ have
whole_length len have is = grind (arith, nat_tests)

short_length : (len have want had : ℕ) → Short want had ≡ length_verdict len have → (want ≡ len) × (had < want)
short_length len have want had is = (grind (arith, nat_tests), grind (arith, nat_tests))

-- a block that is whole has all its bytes
pub whole_is_long : (sums all : List ℕ) (len : ℕ) → verdict_of sums all len ≡ Whole → len ≤ length all
whole_is_long sums all len is = elim (subst (IsDecided len (length all)) is (decided sums all len)) [
  | inl by_length ↦ whole_length len (length all) by_length
  | inr by_meta ↦ absurd by_meta
]

-- and one that is short has fewer
pub short_is_short : (sums all : List ℕ) (len want have : ℕ) → verdict_of sums all len ≡ Short want have → (want ≡ len) × (have < want)
short_is_short sums all len want have is = elim (subst (IsDecided len (length all)) is (decided sums all len)) [
  | inl by_length ↦ short_length len (length all) want have by_length
  | inr by_meta ↦ absurd by_meta
]

-- what holds anyway holds at Ok
pub at_ok : {T E P : Type 0} (r : Result T E) → P → OnOk r P
at_ok (Ok x) holds = holds
at_ok (Err e) holds = tt
