-- Lemmas on numbers in texts.
use Rattle.std.proofs.Common.{◌≡◌, ℕ, ◌+◌, ◌-◌, ◌*◌, ◌^◌, ◌<◌, ◌≤◌, Bool, true, false, List, [], ◌∷◌, length, drop, get_or, refl, ap, sym, ◌∙◌, arith, Option, Some, None}
use Rattle.std.proofs.lemmas.List.{drop_more, drop_all}
use Rattle.std.proofs.lemmas.Bool.Decides.{nat_tests}
use Rattle.std.specs.Option.{option_and_then}
use Rattle.std.specs.Char.{is_ascii_digit}
use Rattle.script_lang.specs.Number.{number_behind, within}

-- the next digit
pub number_more : (word : List ℕ) (i n : ℕ) → i < length word → is_ascii_digit (get_or word i 0) ≡ true → number_behind n (drop i word) ≡ number_behind (n * 10 + (get_or word i 0 - 48)) (drop (i + 1) word)
number_more word i n inside digit = ap (number_behind n) (drop_more word i 0 inside) ∙ rw digit

-- a byte that is no digit
pub number_none : (word : List ℕ) (i n : ℕ) → i < length word → is_ascii_digit (get_or word i 0) ≡ false → number_behind n (drop i word) ≡ None
number_none word i n inside digit = ap (number_behind n) (drop_more word i 0 inside) ∙ rw digit

-- the word's number, where it is below 2^64
abbrev pub small : Option ℕ → Option ℕ
small = option_and_then (within 0 (2 ^ 64))

within_small : (n : ℕ) → n < 2 ^ 64 → within 0 (2 ^ 64) n ≡ Some n
within_small n h = grind (arith, nat_tests)

within_great : (n : ℕ) → 2 ^ 64 ≤ n → within 0 (2 ^ 64) n ≡ None
within_great n h = grind (arith, nat_tests)

great_digit : (n digit : ℕ) (digits : List ℕ) (b : Bool) → is_ascii_digit digit ≡ b → small (number_behind (n * 10 + (digit - 48)) digits) ≡ None → small (number_behind n (digit ∷ digits)) ≡ None
great_digit n digit digits true is more = rw is more
great_digit n digit digits false is more = rw is refl

-- a number that is too great stays so behind more digits
too_great : (n : ℕ) (digits : List ℕ) → 2 ^ 64 ≤ n → small (number_behind n digits) ≡ None
too_great n [] h = within_great n h
too_great n (digit ∷ digits) h = great_digit n digit digits (is_ascii_digit digit) refl (too_great (n * 10 + (digit - 48)) digits (omega arith))

-- the next digit makes the number too great
pub number_over : (word : List ℕ) (i n : ℕ) → i < length word → number_behind n (drop i word) ≡ number_behind 0 word → is_ascii_digit (get_or word i 0) ≡ true → 2 ^ 64 ≤ n * 10 + (get_or word i 0 - 48) → small (number_behind 0 word) ≡ None
number_over word i n inside e digit great = ap small (sym e ∙ number_more word i n inside digit) ∙ too_great (n * 10 + (get_or word i 0 - 48)) (drop (i + 1) word) great

-- all digits were read
pub number_read : (word : List ℕ) (i n : ℕ) → length word ≤ i → number_behind n (drop i word) ≡ number_behind 0 word → n < 2 ^ 64 → small (number_behind 0 word) ≡ Some n
number_read word i n all e fits = ap small (sym e ∙ ap (number_behind n) (drop_all i word all)) ∙ within_small n fits
