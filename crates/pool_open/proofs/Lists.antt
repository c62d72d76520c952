-- Lists that grow by one element in a loop, and the entries of a map that were passed.
use Rattle.std.proofs.Common.{◌≡◌, ◌≢◌, ◌⊎◌, ◌<◌, ◌≤◌, ◌+◌, inl, inr, ℕ, true, false, cond, List, [], ◌∷◌, ◌++◌, None, Some, map, take, get_or, length, refl, ap, sym, ◌∙◌, subst, append_assoc, arith, All, Contains}
use Rattle.std.specs.Prelude.{slice_get}
use Rattle.std.specs.List.{flat_map, AllByRecursion}
use Rattle.std.specs.List.Sorted.{IsStrictlySortedBy}
use Rattle.std.specs.Ordering.{nat_cmp, is_eq, MatchOrdering}
use Rattle.std.specs.declared.cmp.Ordering.{Ordering}
use Rattle.std.specs.declared.cmp.Ordering.TheVariants.{Less, Equal, Greater}
use Rattle.std.specs.Map.{lookup, keys_of}
use Rattle.std.specs.BTreeMap.{BTreeMap, is_at, get}
use Rattle.std.proofs.lemmas.Cmp.{ranked}
use Rattle.std.proofs.lemmas.List.{map_more, take_more, take_all}
use Rattle.std.proofs.lemmas.List.Elements.{Contains-append_left, Contains-append_right, Contains-append_cases, Contains-get_or, All-append, All-nil, All-cons, All-push, All-contains}
use Rattle.std.proofs.lemmas.Option.{get_or_from_slice_get, same_Some}
use Rattle.disk_model.proofs.Laws.{has_one, only_one}

-- one more of a list is mapped
pub mapped_more : {X Y : Type 0} (f : X → Y) (base so_far new : List Y) (xs : List X) (i : ℕ) (x : X) → i < length xs → slice_get xs i ≡ Some x →
    so_far ≡ base ++ map f (take i xs) → new ≡ so_far ++ f x ∷ [] → new ≡ base ++ map f (take (i + 1) xs)
mapped_more f base so_far new xs i x below is was now =
    now
    ∙ ap (λ s. s ++ f x ∷ []) was
    ∙ append_assoc base (map f (take i xs)) (f x ∷ [])
    ∙ ap (λ r. base ++ r) (ap (λ y. map f (take i xs) ++ f y ∷ []) (sym (get_or_from_slice_get xs i x x is)) ∙ sym (map_more f xs i x below))

-- the pieces of one more
pub flat_more : {X Y : Type 0} (f : X → List Y) (all so_far new : List Y) (x : X) (left rest : List X) → left ≡ x ∷ rest →
    so_far ++ flat_map f left ≡ all → new ≡ so_far ++ f x → new ++ flat_map f rest ≡ all
flat_more f all so_far new x left rest is was now =
    ap (λ n. n ++ flat_map f rest) now
    ∙ append_assoc so_far (f x) (flat_map f rest)
    ∙ sym (ap (λ l. so_far ++ flat_map f l) is)
    ∙ was

-- the first of a list, and the next one
pub take_put : {X : Type 0} (xs : List X) (i : ℕ) (x : X) → i < length xs → x ≡ get_or xs i x → take (i + 1) xs ≡ take i xs ++ x ∷ []
take_put xs i x below is = take_more xs i x below ∙ ap (λ y. take i xs ++ y ∷ []) (sym is)

-- one more has a property
pub all_put : {X : Type 0} (P : X → Type 0) (xs : List X) (i : ℕ) (x : X) → i < length xs → x ≡ get_or xs i x → All P (take i xs) → P x → All P (take (i + 1) xs)
all_put P xs i x below is all here = subst (λ l. All P l) (sym (take_put xs i x below is)) (All-push P (take i xs) x all here)

pub all_taken : {X : Type 0} (P : X → Type 0) (xs : List X) (i : ℕ) → length xs ≤ i → All P (take i xs) → All P xs
all_taken P xs i past all = subst (λ l. All P l) (take_all i xs past) all

-- the one that is read is among them
pub has_index : {X : Type 0} (xs : List X) (i : ℕ) (x : X) → i < length xs → x ≡ get_or xs i x → Contains xs x
has_index xs i x below is = subst (λ y. Contains xs y) (sym is) (Contains-get_or xs i x below)

pub nothing_more : {X : Type 0} (xs : List X) → xs ++ [] ≡ xs
nothing_more [] = refl
nothing_more (x ∷ xs) = ap (λ l. x ∷ l) (nothing_more xs)

-- one more was passed
pub passed_more : {X : Type 0} (all passed left rest : List X) (x : X) → left ≡ x ∷ rest → passed ++ left ≡ all → (passed ++ x ∷ []) ++ rest ≡ all
passed_more all passed left rest x is split = append_assoc passed (x ∷ []) rest ∙ sym (ap (λ l. passed ++ l) is) ∙ split

pub passed_all : {X : Type 0} (all passed left : List X) → left ≡ [] → passed ++ left ≡ all → passed ++ [] ≡ all
passed_all all passed left is split = sym (ap (λ l. passed ++ l) is) ∙ split

-- ---- pieces of a list

pub flat_all : {X Y : Type 0} (P : Y → Type 0) (f : X → List Y) (xs : List X) → ((x : X) → Contains xs x → All P (f x)) → All P (flat_map f xs)
flat_all P f [] all = All-nil P
flat_all P f (x ∷ xs) all = All-append P (f x) (flat_map f xs) (all x (Contains-append_left (x ∷ []) xs x (has_one x)))
    (flat_all P f xs (λ y has. all y (Contains-append_right (x ∷ []) xs y has)))

pub flat_contains : {X Y : Type 0} (f : X → List Y) (xs : List X) (x : X) (y : Y) → Contains xs x → Contains (f x) y → Contains (flat_map f xs) y
flat_contains f [] x y has piece = absurd (omega (arith, has.1))
flat_contains {X} {Y} f (first ∷ xs) x y has piece = elim (Contains-append_cases (first ∷ []) xs x has) [
  | inl here ↦ Contains-append_left (f first) (flat_map f xs) y (subst (λ (z : X). Contains (f z) y) (sym (only_one first x here)) piece)
  | inr later ↦ Contains-append_right (f first) (flat_map f xs) y (flat_contains f xs x y later piece)
]

pub map_contains : {X Y : Type 0} (f : X → Y) (xs : List X) (x : X) → Contains xs x → Contains (map f xs) (f x)
map_contains f [] x has = absurd (omega (arith, has.1))
map_contains {X} {Y} f (first ∷ xs) x has = elim (Contains-append_cases (first ∷ []) xs x has) [
  | inl here ↦ Contains-append_left (f first ∷ []) (map f xs) (f x) (subst (λ (z : Y). Contains (f first ∷ []) z) (ap f (only_one first x here)) (has_one (f first)))
  | inr later ↦ Contains-append_right (f first ∷ []) (map f xs) (f x) (map_contains f xs x later)
]

pub map_all : {X Y : Type 0} (P : Y → Type 0) (f : X → Y) (xs : List X) → ((x : X) → Contains xs x → P (f x)) → All P (map f xs)
map_all P f [] all = All-nil P
map_all P f (x ∷ xs) all = All-cons P (f x) (map f xs) (all x (Contains-append_left (x ∷ []) xs x (has_one x)))
    (map_all P f xs (λ y has. all y (Contains-append_right (x ∷ []) xs y has)))

-- ---- what is found in a list of entries

at_cases : (q k : ℕ) (o : Ordering) → MatchOrdering o (q < k) (q ≡ k) (k < q) → ((is_eq o ≡ true) × (q ≡ k)) ⊎ ((is_eq o ≡ false) × (q ≢ k))
at_cases q k Less below = inr (refl, λ same. omega (arith, below, same))
at_cases q k Equal same = inl (refl, same)
at_cases q k Greater above = inr (refl, λ same. omega (arith, above, same))

-- a key is the one that is looked for, or another
pub key_cases : (q k : ℕ) → ((is_at (nat_cmp q) k ≡ true) × (q ≡ k)) ⊎ ((is_at (nat_cmp q) k ≡ false) × (q ≢ k))
key_cases q k = at_cases q k (nat_cmp q k) (ranked q k (nat_cmp q k) refl)

pub key_here : (k : ℕ) → is_at (nat_cmp k) k ≡ true
key_here k = elim (key_cases k k) [ inl at ↦ at.0 | inr away ↦ absurd (away.1 refl) ]

pub key_apart : (q k : ℕ) → q ≢ k → is_at (nat_cmp q) k ≡ false
key_apart q k apart = elim (key_cases q k) [ inl at ↦ absurd (apart at.1) | inr away ↦ away.0 ]

module _ {X : Type 0} (q : ℕ) where
  pub found_last : (passed : List (ℕ × X)) (k : ℕ) (v : X) → lookup (is_at (nat_cmp q)) passed ≡ None → q ≡ k → lookup (is_at (nat_cmp q)) (passed ++ (k, v) ∷ []) ≡ Some v
  found_last [] k v none same = rw (subst (λ n. is_at (nat_cmp q) n ≡ true) same (key_here q)) refl
  found_last (p ∷ passed) k v none same = elim (key_cases q p.0) [
    | inl at ↦ absurd (some_none (sym (rw at.0 refl) ∙ none))
    | inr away ↦ rw away.0 (found_last passed k v (sym (rw away.0 refl) ∙ none) same)
  ]
    where
      some_none : Some p.1 ≡ None → ⊥
      some_none is = (let bad : Some p.1 ≡ None = is in absurd cc)

  pub found_before : (passed : List (ℕ × X)) (k : ℕ) (v : X) → q ≢ k → lookup (is_at (nat_cmp q)) (passed ++ (k, v) ∷ []) ≡ lookup (is_at (nat_cmp q)) passed
  found_before [] k v apart = rw (key_apart q k apart) refl
  found_before (p ∷ passed) k v apart = ap (λ l. cond (is_at (nat_cmp q) p.0) (Some p.1) l) (found_before passed k v apart)

  -- what is found is an entry
  pub found_listed : (es : List (ℕ × X)) (v : X) → lookup (is_at (nat_cmp q)) es ≡ Some v → Contains es (q, v)
  found_listed [] v is = (let bad : None ≡ Some v = is in absurd cc)
  found_listed (p ∷ es) v is = elim (key_cases q p.0) [
    | inl at ↦
        let value : Some p.1 ≡ Some v = sym (rw at.0 refl) ∙ is in
        let same : p ≡ (q, v) = λ i. (sym at.1 i, same_Some p.1 v value i) in
        subst (λ (e : ℕ × X). Contains (p ∷ es) e) same (Contains-append_left (p ∷ []) es p (has_one p))
    | inr away ↦ Contains-append_right (p ∷ []) es (q, v) (found_listed es v (sym (rw away.0 refl) ∙ is))
  ]

-- and an entry of a table is what is found
pub listed_found : {X : Type 0} (blocks : BTreeMap ℕ X) → All (λ (entry : ℕ × X). get nat_cmp blocks entry.0 ≡ Some entry.1) blocks.entries →
    (id : ℕ) (v : X) → Contains blocks.entries (id, v) → get nat_cmp blocks id ≡ Some v
listed_found {X} blocks found id v has = All-contains (λ (entry : ℕ × X). get nat_cmp blocks entry.0 ≡ Some entry.1) blocks.entries (id, v) found has

below_all : {X : Type 0} (P : ℕ → Type 0) (passed : List (ℕ × X)) (e : ℕ × X) (rest : List (ℕ × X)) → AllByRecursion P (keys_of (passed ++ e ∷ rest)) → P e.0
below_all P [] e rest all = all.0
below_all P (p ∷ passed) e rest all = below_all P passed e rest all.1

less_apart : (p k : ℕ) → nat_cmp p k ≡ Less → k ≢ p
less_apart p k less same = let below : p < k = ranked p k Less (sym less) in omega (arith, below, same)

-- no key that was passed is the next one
pub fresh_key : {X : Type 0} (passed : List (ℕ × X)) (e : ℕ × X) (rest : List (ℕ × X)) → IsStrictlySortedBy nat_cmp (keys_of (passed ++ e ∷ rest)) →
    lookup (is_at (nat_cmp e.0)) passed ≡ None
unfolding IsStrictlySortedBy
fresh_key [] e rest sorted = refl
fresh_key (p ∷ passed) e rest sorted =
    rw (key_apart e.0 p.0 (less_apart p.0 e.0 (below_all (λ y. nat_cmp p.0 y ≡ Less) passed e rest sorted.0))) (fresh_key passed e rest sorted.1)
