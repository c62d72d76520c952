-- What a text reads as, from the facts that the reader gives.
use Rattle.std.proofs.Common.{◌≡◌, ℕ, List, Bool, true, false, None, refl, ap, ◌∙◌}
use Rattle.std.specs.Prelude.{if◌then◌else◌}
use Rattle.std.specs.Str.{IsUtf8, is_utf8}
use Rattle.std.proofs.lemmas.Str.{is_utf8-from_IsUtf8, IsUtf8-from_is_utf8}
use Rattle.serde_json.specs.Read as json
use Rattle.scan_cursor.specs.Reading.{reading}

pub reading-utf8 : (text : List ℕ) → IsUtf8 text → reading text ≡ json.read text
reading-utf8 text h = ap (λ (b : Bool). if b then json.read text else None) (is_utf8-from_IsUtf8 text h)

pub reading-none : (text : List ℕ) → (IsUtf8 text → json.read text ≡ None) → reading text ≡ None
reading-none text h = by (is_utf8 text) refl
  where
    by : (b : Bool) → is_utf8 text ≡ b → reading text ≡ None
    by true e = ap (λ (b : Bool). if b then json.read text else None) e ∙ h (IsUtf8-from_is_utf8 text e)
    by false e = ap (λ (b : Bool). if b then json.read text else None) e
