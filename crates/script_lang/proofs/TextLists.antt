-- Lemmas on lists of texts that are lent.
use Rattle.std.proofs.Common.{◌≡◌, ℕ, ◌+◌, ◌-◌, ◌<◌, ◌&&◌, Bool, not, List, [], ◌∷◌, length, take, drop, get_or, map, Bor, refl, ap, sym, ◌∙◌}
use Rattle.std.proofs.lemmas.List.{drop_more, take_rest}
use Rattle.std.specs.List.{list_any, list_all}
use Rattle.std.specs.Str.{bytes_eq}
use Rattle.script_lang.specs.Names.{is_pool, are_distinct}

among_texts : (one : List ℕ) (texts : List (Bor (List ℕ))) → list_any (λ text. bytes_eq one text.now) texts ≡ list_any (bytes_eq one) (map (λ text. text.now) texts)
among_texts one [] = refl
among_texts one (text ∷ texts) = rw (among_texts one texts)

-- whether all are names of pools
pub all_pool_texts : (texts : List (Bor (List ℕ))) → list_all is_pool (map (λ text. text.now) texts) ≡ list_all (λ text. is_pool text.now) texts
all_pool_texts [] = refl
all_pool_texts (text ∷ texts) = rw (all_pool_texts texts)

first_distinct : (text : Bor (List ℕ)) (others : List (Bor (List ℕ))) → are_distinct (map (λ t. t.now) (text ∷ others)) ≡ (not (list_any (λ other. bytes_eq text.now other.now) others) && are_distinct (map (λ t. t.now) others))
first_distinct text others = rw (among_texts text.now others) refl

-- the text at a place is one of those behind it, or not
pub distinct_from : (texts : List (Bor (List ℕ))) (at : ℕ) (text : Bor (List ℕ)) (among : Bool) → at < length texts → among ≡ list_any (λ other. bytes_eq (get_or texts at text).now other.now) (take (length texts - (at + 1)) (drop (at + 1) texts)) → are_distinct (map (λ t. t.now) (drop at texts)) ≡ (not among && are_distinct (map (λ t. t.now) (drop (at + 1) texts)))
distinct_from texts at text among inside e =
    let here = get_or texts at text in
    let others = drop (at + 1) texts in
    ap (λ ts. are_distinct (map (λ t. t.now) ts)) (drop_more texts at text inside) ∙ first_distinct here others
    ∙ ap (λ b. not b && are_distinct (map (λ t. t.now) others)) (sym (e ∙ ap (list_any (λ other. bytes_eq here.now other.now)) (take_rest texts (at + 1))))
