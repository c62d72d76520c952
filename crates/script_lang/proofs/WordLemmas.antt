-- Lemmas on the words of a line.
use Rattle.std.proofs.Common.{◌≡◌, ◌≢◌, ℕ, ◌+◌, ◌<◌, List, [], ◌∷◌, ◌++◌, length, take, drop, get_or, ap, sym, ◌∙◌, ne_eqb, eq-eqb, arith}
use Rattle.std.proofs.lemmas.List.{drop_more, take_more, append_assoc, append-nil, drop_all}
use Rattle.script_lang.specs.Words.{first_word}

word_goes_on : (b : ℕ) (text : List ℕ) → b ≢ 32 → first_word (b ∷ text) ≡ b ∷ first_word text
word_goes_on b text apart = rw (ne_eqb b 32 apart)

word_ends : (b : ℕ) (text : List ℕ) → b ≡ 32 → first_word (b ∷ text) ≡ []
word_ends b text is = rw (eq-eqb b 32 is)

-- one more byte of the first word
pub first_word_more : (text : List ℕ) (i : ℕ) → i < length text → get_or text i 0 ≢ 32 → first_word text ≡ take i text ++ first_word (drop i text) → first_word text ≡ take (i + 1) text ++ first_word (drop (i + 1) text)
first_word_more text i inside apart e =
    e ∙ ap (λ p. take i text ++ first_word p) (drop_more text i 0 inside)
    ∙ ap (λ p. take i text ++ p) (word_goes_on (get_or text i 0) (drop (i + 1) text) apart)
    ∙ sym (append_assoc (take i text) (get_or text i 0 ∷ []) (first_word (drop (i + 1) text)))
    ∙ ap (λ p. p ++ first_word (drop (i + 1) text)) (sym (take_more text i 0 inside))

-- the first space
pub first_word_found : (text : List ℕ) (i : ℕ) → i < length text → get_or text i 0 ≡ 32 → first_word text ≡ take i text ++ first_word (drop i text) → take i text ≡ first_word text
first_word_found text i inside is e =
    sym (e ∙ ap (λ p. take i text ++ first_word p) (drop_more text i 0 inside)
    ∙ ap (λ p. take i text ++ p) (word_ends (get_or text i 0) (drop (i + 1) text) is) ∙ append-nil (take i text))

-- no space
pub first_word_all : (text : List ℕ) (i : ℕ) → i ≡ length text → first_word text ≡ take i text ++ first_word (drop i text) → take i text ≡ first_word text
first_word_all text i is e = sym (e ∙ ap (λ p. take i text ++ first_word p) (drop_all i text (omega arith)) ∙ append-nil (take i text))
