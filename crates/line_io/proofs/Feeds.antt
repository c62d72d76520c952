-- Where the first line feed stands, from a search of the byte.
use Rattle.std.proofs.Common.{◌≡◌, ℕ, zero, suc, ◌<◌, List, [], ◌∷◌, length, take, arith, subst, eq-eqb, Option, None, Some}
use Rattle.std.specs.Prelude.{slice_index, IfSome, IfNone}
use Rattle.std.proofs.lemmas.Bool.{eqb-true}
use Rattle.std.proofs.lemmas.List.{take_all}
use Rattle.memchr.specs.Find.{IsFirstByte, is_byte}
use Rattle.line_io.specs.Lines.{HasNoLineFeed}

no_feed_before : (n : ℕ) (bytes : List ℕ) → ((k : ℕ) → k < n → k < length bytes → slice_index bytes k ≡ 10 → ⊥) → HasNoLineFeed (take n bytes)
no_feed_before zero bytes none = tt
no_feed_before (suc n) [] none = tt
no_feed_before (suc n) (b ∷ bytes) none = (
  λ is. none 0 (omega arith) (omega arith) is,
  no_feed_before n bytes (λ k below within is. none (suc k) (omega (arith, below)) (omega (arith, within)) is),
)

pub feed_within : (bytes : List ℕ) (found : Option ℕ) → IsFirstByte (is_byte 10) bytes found → IfSome found (λ at. at < length bytes)
feed_within bytes None first = tt
feed_within bytes (Some at) first = first.0.high

pub feed_found : (bytes : List ℕ) (found : Option ℕ) → IsFirstByte (is_byte 10) bytes found → IfSome found (λ at. slice_index bytes at ≡ 10)
feed_found bytes None first = tt
feed_found bytes (Some at) first = eqb-true _ _ first.1

pub no_feed_until : (bytes : List ℕ) (found : Option ℕ) → IsFirstByte (is_byte 10) bytes found → IfSome found (λ at. HasNoLineFeed (take at bytes))
no_feed_until bytes None first = tt
no_feed_until bytes (Some at) first = no_feed_before at bytes (λ k below within is. first.0.before k (omega arith) below (eq-eqb _ _ is))

pub no_feed_at_all : (bytes : List ℕ) (found : Option ℕ) → IsFirstByte (is_byte 10) bytes found → IfNone found (HasNoLineFeed bytes)
no_feed_at_all bytes None first = subst HasNoLineFeed (take_all (length bytes) bytes (omega arith)) (no_feed_before (length bytes) bytes (λ k below within is. first k (omega arith) within (eq-eqb _ _ is)))
no_feed_at_all bytes (Some at) first = tt
