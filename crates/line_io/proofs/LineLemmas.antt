-- Lemmas on the lines of some bytes.
use Rattle.std.proofs.Common.{◌≡◌, ◌≢◌, ℕ, ◌+◌, ◌<◌, List, [], ◌∷◌, ◌++◌, length, take, refl, ap, ◌∙◌, ne_eqb, arith, get_or}
use Rattle.std.proofs.lemmas.List.{take_more}
use Rattle.line_io.specs.Lines.{HasNoLineFeed, onto_first, terminated_lines, line_text}

-- a byte that is no line feed goes onto the line after it
no_feed : (b : ℕ) (bytes : List ℕ) → b ≢ 10 → terminated_lines (b ∷ bytes) ≡ onto_first b (terminated_lines bytes)
no_feed b bytes apart = rw (ne_eqb b 10 apart)

-- a text and a line feed are the first line, and what follows are the others
pub ended_line : (text rest : List ℕ) → HasNoLineFeed text → terminated_lines (text ++ 10 ∷ rest) ≡ (text ++ 10 ∷ []) ∷ terminated_lines rest
ended_line [] rest h = refl
ended_line (b ∷ text) rest h = no_feed b (text ++ 10 ∷ rest) h.0 ∙ ap (onto_first b) (ended_line text rest h.1)

-- a text alone is the only line
pub last_line : (text : List ℕ) → HasNoLineFeed text → 0 < length text → terminated_lines text ≡ text ∷ []
last_line [] h some = absurd (omega arith)
last_line (b ∷ []) h some = no_feed b [] h.0
last_line (b ∷ c ∷ text) h some = no_feed b (c ∷ text) h.0 ∙ ap (onto_first b) (last_line (c ∷ text) h.1 (omega arith))

-- the first line begins with a text that has no line feed
pub record Begins (text bytes : List ℕ) : Type 0 where
  pub tail : List ℕ
  pub more : List (List ℕ)
  pub first : terminated_lines bytes ≡ (text ++ tail) ∷ more

onto_begins : (b : ℕ) (text bytes : List ℕ) → b ≢ 10 → Begins text bytes → Begins (b ∷ text) (b ∷ bytes)
onto_begins b text bytes apart h = record { tail = h.tail; more = h.more; first = no_feed b bytes apart ∙ ap (onto_first b) h.first }

begun_by_one : (b : ℕ) (rest : List ℕ) (lines : List (List ℕ)) → b ≢ 10 → terminated_lines rest ≡ lines → Begins (b ∷ []) (b ∷ rest)
begun_by_one b rest [] apart e = record { tail = []; more = []; first = no_feed b rest apart ∙ ap (onto_first b) e }
begun_by_one b rest (line ∷ lines) apart e = record { tail = line; more = lines; first = no_feed b rest apart ∙ ap (onto_first b) e }

pub begun_line : (text rest : List ℕ) → HasNoLineFeed text → 0 < length text → Begins text (text ++ rest)
begun_line [] rest h some = absurd (omega arith)
begun_line (b ∷ []) rest h some = begun_by_one b rest (terminated_lines rest) h.0 refl
begun_line (b ∷ c ∷ text) rest h some = onto_begins b (c ∷ text) (c ∷ text ++ rest) h.0 (begun_line (c ∷ text) rest h.1 (omega arith))

-- a text with no line feed stands at the front of the text of a line that it begins
pub line_text-append : (text tail : List ℕ) → HasNoLineFeed text → line_text (text ++ tail) ≡ text ++ line_text tail
line_text-append [] tail h = refl
line_text-append (b ∷ text) tail h = rw (ne_eqb b 10 h.0) (ap (λ t. b ∷ t) (line_text-append text tail h.1))

pub HasNoLineFeed-append : (text more : List ℕ) → HasNoLineFeed text → HasNoLineFeed more → HasNoLineFeed (text ++ more)
HasNoLineFeed-append [] more h k = k
HasNoLineFeed-append (b ∷ text) more h k = (h.0, HasNoLineFeed-append text more h.1 k)

-- one more byte that is no line feed
pub no_feed_more : (bytes : List ℕ) (i : ℕ) → i < length bytes → HasNoLineFeed (take i bytes) → get_or bytes i 0 ≢ 10 → HasNoLineFeed (take (i + 1) bytes)
no_feed_more bytes i inside h apart = rw (take_more bytes i 0 inside) (HasNoLineFeed-append (take i bytes) (get_or bytes i 0 ∷ []) h (apart, tt))
