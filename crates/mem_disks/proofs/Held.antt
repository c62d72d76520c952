-- What stands under a name after one shelf was changed.
use Rattle.std.proofs.Common.{◌≡◌, ℕ, zero, suc, ◌<◌, ◌==◌, List, [], ◌∷◌, ◌++◌, length, get_or, set, Option, None, if◌then◌else◌, bytes_eq, refl, sym, ◌∙◌, ap, subst, arith, eq-eqb, inl, inr, Result, Ok, Err, OnErr, string_bytes}
use Rattle.std.specs.Map.{lookup}
use Rattle.std.specs.Ordering.{is_eq, nat_cmp}
use Rattle.std.specs.Cmp.Lexicographic.{slice_cmp}
use Rattle.std.specs.BTreeMap.{BTreeMap, get_by_text}
use Rattle.std.specs.declared.string.String.{String}
use Rattle.std.proofs.lemmas.Bool.{cases_Bool, both_ways, eqb-true}
use Rattle.std.specs.Map.{update}
use Rattle.mem_disks.specs.declared.shelves.Entry.{Entry}
use Rattle.mem_disks.specs.Shelves.{held, Puts, Same}

module _ {Y : Type 0} where
  pub held_get : (shelves : List (BTreeMap (String Y) Entry)) (i : ℕ) (d : BTreeMap (String Y) Entry) (path : List ℕ) → i < length shelves
      → held shelves i path ≡ get_by_text (get_or shelves i d) path
  held_get [] i d path within = absurd (omega (arith, within))
  held_get (shelf ∷ shelves) zero d path within = refl
  held_get (shelf ∷ shelves) (suc i) d path within = held_get shelves i d path (omega (arith, within))

  pub held_here : (shelves : List (BTreeMap (String Y) Entry)) (n : ℕ) (shelf : BTreeMap (String Y) Entry) (path : List ℕ) → n < length shelves
      → held (set shelves n shelf) n path ≡ get_by_text shelf path
  held_here [] n shelf path within = absurd (omega (arith, within))
  held_here (first ∷ shelves) zero shelf path within = refl
  held_here (first ∷ shelves) (suc n) shelf path within = held_here shelves n shelf path (omega (arith, within))

  pub held_other : (shelves : List (BTreeMap (String Y) Entry)) (n : ℕ) (shelf : BTreeMap (String Y) Entry) (i : ℕ) (path : List ℕ) → (n ≡ i → ⊥)
      → held (set shelves n shelf) i path ≡ held shelves i path
  held_other [] n shelf i path differ = refl
  held_other (first ∷ shelves) zero shelf zero path differ = absurd (differ refl)
  held_other (first ∷ shelves) zero shelf (suc i) path differ = refl
  held_other (first ∷ shelves) (suc n) shelf zero path differ = refl
  held_other (first ∷ shelves) (suc n) shelf (suc i) path differ = held_other shelves n shelf i path (λ same. differ (ap (λ (k : ℕ). suc k) same))

  pub held_set : (shelves : List (BTreeMap (String Y) Entry)) (n : ℕ) (shelf : BTreeMap (String Y) Entry) (i : ℕ) (path : List ℕ) → n < length shelves
      → held (set shelves n shelf) i path ≡ (if n == i then get_by_text shelf path else held shelves i path)
  held_set shelves n shelf i path within = elim (cases_Bool (n == i)) [
    | inl same ↦ rw same (subst (λ (j : ℕ). held (set shelves n shelf) j path ≡ get_by_text shelf path) (eqb-true n i same) (held_here shelves n shelf path within))
    | inr other ↦ rw other (held_other shelves n shelf i path (λ same. both_ways _ other (eq-eqb n i same)))
  ]

  -- the shelf of this index was changed at one path
  pub puts : (shelves : List (BTreeMap (String Y) Entry)) (n : ℕ) (d new : BTreeMap (String Y) Entry) (path : List ℕ) (entry : Option Entry)
      → n < length shelves → ((p : List ℕ) → get_by_text new p ≡ update bytes_eq (get_by_text (get_or shelves n d)) path entry p)
      → Puts shelves (set shelves n new) n path entry
  puts shelves n d new path entry within updates i p = held_set shelves n new i p within ∙ elim (cases_Bool (n == i)) [
    | inl same ↦
        let here : held shelves i p ≡ get_by_text (get_or shelves n d) p =
        subst (λ (j : ℕ). held shelves j p ≡ get_by_text (get_or shelves n d) p) (eqb-true n i same) (held_get shelves n d p within) in
        rw same (updates p ∙ rw here refl)
    | inr other ↦ rw other refl
  ]

  -- the shelf was left as it was
  pub same : (shelves : List (BTreeMap (String Y) Entry)) (n : ℕ) (d new : BTreeMap (String Y) Entry)
      → n < length shelves → new.entries ≡ (get_or shelves n d).entries → Same shelves (set shelves n new)
  same shelves n d new within is i p = held_set shelves n new i p within ∙ elim (cases_Bool (n == i)) [
    | inl here ↦
        rw here (ap (λ (es : List (String Y × Entry)). lookup (λ k. is_eq (slice_cmp nat_cmp p (string_bytes k))) es) is
        ∙ sym (subst (λ (j : ℕ). held shelves j p ≡ get_by_text (get_or shelves n d) p) (eqb-true n i here) (held_get shelves n d p within)))
    | inr other ↦ rw other refl
  ]

pub on_err : {T E : Type 0} (result : Result T E) (P : Type 0) → P → OnErr result P
on_err (Ok x) P holds = tt
on_err (Err e) P holds = holds

module _ {Y : Type 0} where
  -- one more shelf, an empty one
  pub held_push : (shelves : List (BTreeMap (String Y) Entry)) (shelf : BTreeMap (String Y) Entry) → ((path : List ℕ) → get_by_text shelf path ≡ None)
      → ((i : ℕ) (path : List ℕ) → held shelves i path ≡ None) → (i : ℕ) (path : List ℕ) → held (shelves ++ shelf ∷ []) i path ≡ None
  held_push [] shelf empty none zero path = empty path
  held_push [] shelf empty none (suc i) path = refl
  held_push (first ∷ shelves) shelf empty none zero path = none zero path
  held_push (first ∷ shelves) shelf empty none (suc i) path = held_push shelves shelf empty (λ j p. none (suc j) p) i path
