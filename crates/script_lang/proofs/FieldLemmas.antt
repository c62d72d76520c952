-- Lemmas on words that are fields of a line.
use Rattle.std.proofs.Common.{◌≡◌, ℕ, Bool, true, false, List, refl, ap, None, if◌then◌else◌}
use Rattle.std.specs.Str.{IsUtf8, is_utf8}
use Rattle.std.proofs.lemmas.Str.{is_utf8-from_IsUtf8, IsUtf8-from_is_utf8}
use Rattle.script_lang.specs.Fields.{text_of, unless_empty}

-- a word of UTF-8
pub text_given : (word : List ℕ) → IsUtf8 word → text_of word ≡ unless_empty word
text_given word h = ap (λ (b : Bool). if b then unless_empty word else None) (is_utf8-from_IsUtf8 word h)

-- another word
pub text_refused : (word : List ℕ) → ¬ (IsUtf8 word) → text_of word ≡ None
text_refused word h = by (is_utf8 word) refl
  where
    by : (b : Bool) → is_utf8 word ≡ b → text_of word ≡ None
    by true e = absurd (h (IsUtf8-from_is_utf8 word e))
    by false e = ap (λ (b : Bool). if b then unless_empty word else None) e
