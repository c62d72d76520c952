-- The names in `tmp` of one more volume.
use Rattle.std.proofs.Common.{◌≡◌, ◌<◌, ◌+◌, ℕ, List, [], ◌∷◌, ◌++◌, take, get_or, length, ap, sym, ◌∙◌, append_assoc, arith}
use Rattle.std.proofs.lemmas.List.{length-take}
use Rattle.pool_open.specs.Plan.{Place, names_on, temporary_from}
use Rattle.pool_open.proofs.Lists.{nothing_more, take_put}

temporary_put : (vol : ℕ) (all : List (List (List ℕ))) (names : List (List ℕ)) → temporary_from vol (all ++ names ∷ []) ≡ temporary_from vol all ++ names_on (vol + length all) names
temporary_put vol [] names =
    let same : vol ≡ vol + 0 = omega arith in
    nothing_more (names_on vol names) ∙ ap (λ n. names_on n names) same
temporary_put vol (first ∷ all) names =
    let same : (vol + 1) + length all ≡ vol + length (first ∷ all) = omega arith in
    ap (λ l. names_on vol first ++ l) (temporary_put (vol + 1) all names)
    ∙ ap (λ n. names_on vol first ++ (temporary_from (vol + 1) all ++ names_on n names)) same
    ∙ sym (append_assoc (names_on vol first) (temporary_from (vol + 1) all) (names_on (vol + length (first ∷ all)) names))

pub temporary_more : (base so_far new : List Place) (all : List (List (List ℕ))) (i vol : ℕ) (names : List (List ℕ)) → i < length all → names ≡ get_or all i names → vol ≡ i + 1 →
    so_far ≡ base ++ temporary_from 1 (take i all) → new ≡ so_far ++ names_on vol names → new ≡ base ++ temporary_from 1 (take (i + 1) all)
temporary_more base so_far new all i vol names below is counted was now =
    let same : vol ≡ 1 + length (take i all) = omega (arith, counted, length-take i all, below) in
    now
    ∙ ap (λ s. s ++ names_on vol names) was
    ∙ append_assoc base (temporary_from 1 (take i all)) (names_on vol names)
    ∙ ap (λ n. base ++ (temporary_from 1 (take i all) ++ names_on n names)) same
    ∙ ap (λ l. base ++ l) (sym (temporary_put 1 (take i all) names))
    ∙ ap (λ l. base ++ temporary_from 1 l) (sym (take_put all i names below is))
