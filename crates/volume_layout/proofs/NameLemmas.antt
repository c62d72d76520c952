-- How a name is taken apart: `blk_`, digits, and for a meta file `_`, digits and `.meta`.
use Rattle.std.proofs.Common.{◌≡◌, ◌≢◌, ℕ, ◌+◌, ◌-◌, ◌<◌, ◌^◌, List, [], ◌∷◌, ◌++◌, length, get_or, take, drop, Option, Some, ap, sym, ◌∙◌, subst, append_assoc, arith}
use Rattle.std.specs.Prelude.{decimal, codes, MatchOption}
use Rattle.std.specs.Borrow.{Bor}
use Rattle.std.specs.Str.Parse.{AllDigits}
use Rattle.std.specs.Str.Pattern.{FindsTextPrefix, FindsTextSuffix}
use Rattle.std.specs.Int.{IsInRange}
use Rattle.std.proofs.lemmas.Bool.{false≢true}
use Rattle.std.proofs.lemmas.List.{append_cancel_right}
use Rattle.std.proofs.lemmas.Str.Parse.{digit_at}
use Rattle.std.proofs.lemmas.Str.Pattern.{IsSplitOnceResult, split_after}
use Rattle.volume_layout.specs.Paths.{IsBlockId, IsStamp, block_name, meta_name}
use Rattle.volume_layout.specs.Names.{Names}
use Rattle.volume_layout.specs.declared.names.Named.TheVariants.{Other}
use Rattle.volume_layout.proofs.Reading.{digits_decimal, digit_is}

-- what stripping a text from the front or the end tells
pub prefix_parts : (p s x : List ℕ) → (n : ℕ) × FindsTextPrefix p s (Some n) × (x ≡ drop n s) × (length x + n ≡ length s) → s ≡ p ++ x
prefix_parts p s x strips = strips.1.1 ∙ ap (λ t. p ++ t) (sym strips.2)

pub suffix_parts : (p s x : List ℕ) → (n : ℕ) × FindsTextSuffix p s (Some n) × (x ≡ take (length s - n) s) × (length x + n ≡ length s) → s ≡ x ++ p
suffix_parts p s x strips = strips.1.1 ∙ ap (λ t. t ++ p) (sym strips.2)

-- a name without `blk_` in front
pub lacks_prefix : (name : List ℕ) → ((rest : List ℕ) → name ≢ codes "blk_" ++ rest) → Names name Other
unfolding block_name meta_name
lacks_prefix name lacks = (
  λ id valid same. lacks (decimal id) same,
  λ id stamp valid stamped same. lacks (decimal id ++ codes "_" ++ decimal stamp ++ codes ".meta") same,
)

-- a name whose rest is neither form
pub other_from_rest : (name rest : List ℕ) → name ≡ codes "blk_" ++ rest →
    ((id : ℕ) → IsBlockId id → rest ≢ decimal id) →
    ((id stamp : ℕ) → IsBlockId id → IsStamp stamp → rest ≢ decimal id ++ codes "_" ++ decimal stamp ++ codes ".meta") → Names name Other
unfolding block_name meta_name
other_from_rest name rest is no_block no_meta = (
  λ id valid same. no_block id valid (ap (λ t. drop 4 t) (sym is ∙ same)),
  λ id stamp valid stamped same. no_meta id stamp valid stamped (ap (λ t. drop 4 t) (sym is ∙ same)),
)

digits_end : (xs ys : List ℕ) → AllDigits 10 (xs ++ ys) → AllDigits 10 ys
digits_end [] ys all = all
digits_end (x ∷ xs) ys all = digits_end xs ys all.1

-- a decimal doesn't end with `.meta`
pub decimal_no_suffix : (id : ℕ) (middle : List ℕ) → IsBlockId id → middle ++ codes ".meta" ≢ decimal id
decimal_no_suffix id middle valid same =
    let P : List ℕ → Type 0 = λ t. AllDigits 10 t in
    let all : AllDigits 10 (codes ".meta") = digits_end middle (codes ".meta") (subst P (sym same) (digits_decimal id (omega (arith, valid.1)))) in
    false≢true (digit_is 46 all.0)

-- what stands before `.meta`
pub middle_is : (ds es middle : List ℕ) → middle ++ codes ".meta" ≡ ds ++ codes "_" ++ es ++ codes ".meta" → middle ≡ ds ++ (95 ∷ es)
middle_is ds es middle same =
    append_cancel_right middle (ds ++ codes "_" ++ es) (codes ".meta") same ∙ simp append_assoc

joined : (ds es : List ℕ) → ds ++ (95 ∷ es) ≡ ds ++ codes "_" ++ es
joined ds es = simp append_assoc

-- a decimal has no underscore
pub decimal_no_underscore : (n : ℕ) → n < 2 ^ 64 → (i : ℕ) → i < length (decimal n) → get_or (decimal n) i 0 ≢ 95
decimal_no_underscore n small i within same =
    let range : IsInRange 48 57 (get_or (decimal n) i 0) = digit_at (decimal n) i (digits_decimal n small) within in
    absurd (omega (arith, range.0, range.1, same))

-- the split at the first underscore gives the two decimals
pub split_decimals : (id stamp : ℕ) (middle : List ℕ) (r : Option (Bor (List ℕ) × Bor (List ℕ))) → IsBlockId id →
    IsSplitOnceResult 95 middle r → middle ≡ decimal id ++ (95 ∷ decimal stamp) →
    MatchOption r ⊥ (λ x. (x.0.now ≡ decimal id) × (x.1.now ≡ decimal stamp))
split_decimals id stamp middle r valid splits is =
    split_after 95 middle (decimal id) (decimal stamp) r splits (omega arith) is (decimal_no_underscore id (omega (arith, valid.1)))

-- the parts of a meta file's name, put together
pub whole_meta : (name rest middle ds es : List ℕ) (id stamp : ℕ) → name ≡ codes "blk_" ++ rest → rest ≡ middle ++ codes ".meta" →
    middle ≡ ds ++ (95 ∷ es) → ds ≡ decimal id → es ≡ decimal stamp → name ≡ meta_name id stamp
unfolding block_name meta_name
whole_meta name rest middle ds es id stamp is_rest is_middle is_parts is_id is_stamp =
    is_rest ∙ ap (λ t. codes "blk_" ++ t) (is_middle ∙ ap (λ t. t ++ codes ".meta")
    (is_parts ∙ (ap (λ d. d ++ (95 ∷ es)) is_id ∙ (ap (λ e. decimal id ++ (95 ∷ e)) is_stamp ∙ joined (decimal id) (decimal stamp)))))
