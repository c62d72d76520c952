-- Which element of a list comes before which.
use Rattle.std.proofs.Common.{◌≡◌, ◌⊎◌, ◌+◌, ◌-◌, inl, inr, ℕ, zero, suc, List, [], ◌∷◌, ◌++◌, take, map, length, Contains, ap, sym, ◌∙◌, subst, arith}
use Rattle.std.specs.Prelude.{nat_lt}
use Rattle.std.specs.List.{flat_map}
use Rattle.std.proofs.Math.Seq.{take-append-add}
use Rattle.std.proofs.lemmas.Bool.{cases_Bool, ltb-true, ltb-false}
use Rattle.std.proofs.lemmas.List.{take-append-le}
use Rattle.std.proofs.lemmas.List.Elements.{Contains-append_left}
use Rattle.pool_open.proofs.Placed.{none_in, first_in, later_in, in_cases}

-- the first elements of the list have the one wherever they have the other
abbrev pub Precedes : {X : Type 0} → List X → (one other : X) → Type 0
Precedes xs one other = (count : ℕ) → Contains (take count xs) other → Contains (take count xs) one

pub map_from : {X Y : Type 0} (f : X → Y) (xs : List X) (y : Y) → Contains (map f xs) y → (x : X) × Contains xs x × (f x ≡ y)
map_from f [] y has = absurd (none_in y has)
map_from f (x ∷ xs) y has = elim (in_cases (f x) (map f xs) y has) [
  | inl here ↦ (x, first_in x xs, here)
  | inr later ↦ let rest = map_from f xs y later in (rest.0, later_in x xs rest.0 rest.1, rest.2)
]

module _ {X : Type 0} (one other : X) where
  precedes_here : (xs : List X) → Precedes (one ∷ xs) one other
  precedes_here xs zero has = absurd (none_in other has)
  precedes_here xs (suc count) has = first_in one (take count xs)

  precedes_skip : (x : X) (xs : List X) → (x ≡ other → ⊥) → Precedes xs one other → Precedes (x ∷ xs) one other
  precedes_skip x xs apart before zero has = absurd (none_in other has)
  precedes_skip x xs apart before (suc count) has = elim (in_cases x (take count xs) other has) [
    | inl here ↦ absurd (apart here)
    | inr later ↦ later_in x (take count xs) one (before count later)
  ]

  -- the one stands in the first piece, the other doesn't
  pub precedes_left : (xs ys : List X) → Contains xs one → (Contains xs other → ⊥) → Precedes (xs ++ ys) one other
  precedes_left [] ys has none = absurd (none_in one has)
  precedes_left (x ∷ xs) ys has none = elim (in_cases x xs one has) [
    | inl here ↦ subst (λ (z : X). Precedes (z ∷ xs ++ ys) one other) (sym here) (precedes_here (xs ++ ys))
    | inr later ↦ precedes_skip x (xs ++ ys) (λ same. none (subst (λ (z : X). Contains (x ∷ xs) z) same (first_in x xs)))
        (precedes_left xs ys later (λ has_other. none (later_in x xs other has_other)))
  ]

  -- in a first piece with the one
  pub precedes_append : (xs ys : List X) → Contains xs one → Precedes xs one other → Precedes (xs ++ ys) one other
  precedes_append xs ys has before count found = elim (cases_Bool (nat_lt (length xs) count)) [
    | inl past ↦
        let longer = ltb-true (length xs) count past in
        let more : length xs + (count - length xs) ≡ count = omega (arith, longer) in
        let split : take count (xs ++ ys) ≡ xs ++ take (count - length xs) ys =
        ap (λ n. take n (xs ++ ys)) (sym more) ∙ take-append-add xs ys (count - length xs) in
        subst (λ (l : List X). Contains l one) (sym split) (Contains-append_left xs (take (count - length xs) ys) one has)
    | inr within ↦
        let same : take count (xs ++ ys) ≡ take count xs = take-append-le count xs ys (ltb-false (length xs) count within) in
        subst (λ (l : List X). Contains l one) (sym same) (before count (subst (λ (l : List X). Contains l other) same found))
  ]

  -- behind a piece without the other
  pub precedes_after : (xs ys : List X) → (Contains xs other → ⊥) → Precedes ys one other → Precedes (xs ++ ys) one other
  precedes_after [] ys none before = before
  precedes_after (x ∷ xs) ys none before = precedes_skip x (xs ++ ys) (λ same. none (subst (λ (z : X). Contains (x ∷ xs) z) same (first_in x xs)))
      (precedes_after xs ys (λ has. none (later_in x xs other has)) before)

  -- in the pieces of several, of which one alone has the other
  pub precedes_flat : {Z : Type 0} (f : Z → List X) (zs : List Z) (z : Z) → Contains zs z → ((y : Z) → Contains zs y → (y ≡ z) ⊎ (Contains (f y) other → ⊥)) →
      Contains (f z) one → Precedes (f z) one other → Precedes (flat_map f zs) one other
  precedes_flat f [] z has apart here before = absurd (none_in z has)
  precedes_flat {Z} f (y ∷ zs) z has apart here before = elim (in_cases y zs z has) [
    | inl same ↦ subst (λ (w : Z). Precedes (f w ++ flat_map f zs) one other) (sym same) (precedes_append (f z) (flat_map f zs) here before)
    | inr later ↦ elim (apart y (first_in y zs)) [
      | inl same ↦ subst (λ (w : Z). Precedes (f w ++ flat_map f zs) one other) (sym same) (precedes_append (f z) (flat_map f zs) here before)
      | inr none ↦ precedes_after (f y) (flat_map f zs) none (precedes_flat f zs z later (λ w there. apart w (later_in y zs w there)) here before)
    ]
  ]
