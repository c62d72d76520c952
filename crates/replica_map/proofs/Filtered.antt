-- The leftovers of one block, as one is listed or dropped.
use Rattle.std.proofs.Common.{◌≡◌, ◌≢◌, ℕ, zero, suc, ◌<◌, ◌≤◌, Bool, true, false, cond, ◌&&◌, eqb, List, [], ◌∷◌, ◌++◌, length, get_or, take, drop, Option, Some, None, refl, sym, ap, ◌∙◌, subst, arith, inl, inr, add-one}
use Rattle.std.specs.Prelude.{filter, position, remove, slice_get, nat_lt, IfSome, IsSomeAnd}
use Rattle.std.proofs.lemmas.Bool.{cases_eq, eq-eqb, ne_eqb, eqb-true, and_parts, ltb-true, ltb-false}
use Rattle.std.proofs.lemmas.List.{get_or_default, take-append-drop, drop_more, append-nil, get_or-take, length-take-le}
use Rattle.std.proofs.lemmas.List.Elements.{filter-append}
use Rattle.std.proofs.lemmas.List.Quantifiers.{position-Some}
use Rattle.std.proofs.lemmas.Option.{slice_get_within, get_or_from_slice_get, slice_get_cases, same_Some}
use Rattle.std.proofs.lemmas.List.Sums.{fails_before_first}
use Rattle.std.specs.List.{position_or_len}
use Rattle.replica_map.specs.declared.leftover.Leftover.{Leftover}
use Rattle.replica_map.specs.Leftovers.{is_leftover_of}
use Rattle.replica_map.specs.Books.{Books, IsFirstOf}

-- the leftover is the block's
abbrev pub is_of : ℕ → Leftover → Bool
is_of id leftover = eqb leftover.id id

pub filter_pushed : (id : ℕ) (xs : List Leftover) (x : Leftover) → filter (is_of id) (xs ++ x ∷ []) ≡ cond (eqb id x.id) (filter (is_of id) xs ++ x ∷ []) (filter (is_of id) xs)
filter_pushed id xs x =
    elim (cases_eq id x.id) [
      | inl own ↦ rw (eq-eqb id x.id own) (filter-append (is_of id) xs (x ∷ []) ∙ ap (λ ys. filter (is_of id) xs ++ ys) (rw (eq-eqb x.id id (sym own))))
      | inr other ↦ rw (ne_eqb id x.id other) (filter-append (is_of id) xs (x ∷ []) ∙ (ap (λ ys. filter (is_of id) xs ++ ys) (rw (ne_eqb x.id id (λ e. other (sym e)))) ∙ append-nil (filter (is_of id) xs)))
    ]

split_at : (xs : List Leftover) (i : ℕ) (x : Leftover) → slice_get xs i ≡ Some x → xs ≡ take i xs ++ x ∷ drop (suc i) xs
split_at xs i x is =
    sym (take-append-drop i xs) ∙ ap (λ r. take i xs ++ r) ((rw add-one at (drop_more xs i x (slice_get_within xs i x is))) ∙ ap (λ z. z ∷ drop (suc i) xs) (get_or_from_slice_get xs i x x is))

pub filter_others : (id : ℕ) (xs : List Leftover) (i : ℕ) (x : Leftover) → slice_get xs i ≡ Some x → x.id ≢ id → filter (is_of id) (remove xs i) ≡ filter (is_of id) xs
filter_others id xs i x is other =
    filter-append (is_of id) (take i xs) (drop (suc i) xs)
    ∙ sym (ap (filter (is_of id)) (split_at xs i x is) ∙ (filter-append (is_of id) (take i xs) (x ∷ drop (suc i) xs) ∙ ap (λ ys. filter (is_of id) (take i xs) ++ ys) (rw (ne_eqb x.id id other))))

filter_nil : (p : Leftover → Bool) (xs : List Leftover) → ((k : ℕ) (d : Leftover) → k < length xs → p (get_or xs k d) ≡ false) → filter p xs ≡ []
filter_nil p [] h = refl
filter_nil p (x ∷ xs) h = rw (h zero x (omega arith)) (filter_nil p xs (λ k d l. h (suc k) d (omega arith)))

without_true : (b c : Bool) → (b && true) ≡ c → b ≡ c
without_true true c e = e
without_true false c e = e

pub filter_first : (id : ℕ) (xs : List Leftover) (i : ℕ) (x : Leftover) → slice_get xs i ≡ Some x → position (is_leftover_of id None) xs ≡ Some i → filter (is_of id) xs ≡ x ∷ filter (is_of id) (remove xs i)
filter_first id xs i x is at =
    let found = position-Some (is_leftover_of id None) xs i x at in
    let own : eqb x.id id ≡ true = ap (is_of id) (sym (get_or_from_slice_get xs i x x is)) ∙ without_true _ true found.1 in
    let within : i < length xs = found.0 in
    let front : filter (is_of id) (take i xs) ≡ [] = filter_nil (is_of id) (take i xs) (λ k d l.
    let below : k < i = omega (arith, length-take-le i xs (omega arith)) in
    ap (is_of id) (get_or-take i xs k d below) ∙ (ap (is_of id) (get_or_default xs k d x (omega arith)) ∙ without_true _ false (found.2 k below))) in
    ap (filter (is_of id)) (split_at xs i x is)
    ∙ (filter-append (is_of id) (take i xs) (x ∷ drop (suc i) xs)
    ∙ (ap (λ ys. ys ++ filter (is_of id) (x ∷ drop (suc i) xs)) front
    ∙ (rw own (ap (λ ys. x ∷ ys) (sym (filter-append (is_of id) (take i xs) (drop (suc i) xs) ∙ ap (λ ys. ys ++ filter (is_of id) (drop (suc i) xs)) front))))))

place_cases : (p : Leftover → Bool) (xs : List Leftover) (i : ℕ) (b : Bool) → nat_lt (position_or_len p xs) (length xs) ≡ b → cond b (Some (position_or_len p xs)) None ≡ Some i → length xs ≤ i → ⊥
place_cases p xs i true lt e past = let at = same_Some (position_or_len p xs) i e in omega (arith, ltb-true _ _ lt)
place_cases p xs i false lt e past = absurd cc

none_cases : (p : Leftover → Bool) (xs : List Leftover) (b : Bool) → nat_lt (position_or_len p xs) (length xs) ≡ b → cond b (Some (position_or_len p xs)) None ≡ None → length xs ≤ position_or_len p xs
none_cases p xs true lt e = absurd cc
none_cases p xs false lt e = ltb-false _ _ lt

-- where none is found the block has none
pub none_left : (id : ℕ) (vol : Option ℕ) (xs : List Leftover) → vol ≡ None → position (is_leftover_of id vol) xs ≡ None → filter (is_of id) xs ≡ []
none_left id vol xs any e =
    let all : length xs ≤ position_or_len (is_leftover_of id None) xs = none_cases (is_leftover_of id None) xs _ refl (ap (λ v. position (is_leftover_of id v) xs) (sym any) ∙ e) in
    filter_nil (is_of id) xs (λ k d l. without_true _ false (fails_before_first (is_leftover_of id None) xs k d (omega arith)))

-- what is found is the block's
pub first_is : (id : ℕ) (vol : Option ℕ) (xs : List Leftover) (r : Option ℕ) → r ≡ position (is_leftover_of id vol) xs → IfSome r (λ i. IsSomeAnd (slice_get xs i) (λ leftover. leftover.id ≡ id))
first_is id vol xs None e = tt
first_is id vol xs (Some i) e =
    elim ((slice_get_cases xs i).1) [
      | inl (x, w, is, at) ↦ (let passes : is_leftover_of id vol x ≡ true = ap (is_leftover_of id vol) (sym at) ∙ (position-Some (is_leftover_of id vol) xs i x (sym e)).1 in
          subst (λ o. IsSomeAnd o (λ leftover. leftover.id ≡ id)) (sym is) (eqb-true x.id id (and_parts _ _ passes).0))
      | inr (past, is) ↦ absurd (place_cases (is_leftover_of id vol) xs i (nat_lt (position_or_len (is_leftover_of id vol) xs) (length xs)) refl (sym e) past)
    ]

-- the first leftover of a block, of those of all volumes
first_at : (id : ℕ) (books : Books) (i : ℕ) → position (is_leftover_of id None) books.leftovers ≡ Some i → IsFirstOf id i books
first_at id books i at =
    elim ((slice_get_cases books.leftovers i).1) [
      | inl (x, w, is, here) ↦ record {
        leftover = x;
        at = is;
        own = eqb-true x.id id (and_parts _ _ (ap (is_leftover_of id None) (sym here) ∙ (position-Some (is_leftover_of id None) books.leftovers i x at).1)).0;
        before = filter_first id books.leftovers i x is at;
      }
      | inr (past, is) ↦ absurd (place_cases (is_leftover_of id None) books.leftovers i (nat_lt (position_or_len (is_leftover_of id None) books.leftovers) (length books.leftovers)) refl at past)
    ]

pub first_of : (id : ℕ) (books : Books) (result : Option ℕ) (vol : Option ℕ) → vol ≡ None → result ≡ position (is_leftover_of id vol) books.leftovers →
    IfSome result (λ i. IsFirstOf id i books)
first_of id books None vol any is = tt
first_of id books (Some i) vol any is = first_at id books i (ap (λ v. position (is_leftover_of id v) books.leftovers) (sym any) ∙ sym is)
