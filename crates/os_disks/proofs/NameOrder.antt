-- A name after the last of names in order.
use Rattle.std.proofs.Common.{◌≡◌, ℕ, ◌+◌, inl, inr, List, length, All, get_or, Some, sym, subst, arith}
use Rattle.std.proofs.lemmas.Bool.{cases_lt}
use Rattle.std.proofs.lemmas.Option.{get_or_from_slice_get}
use Rattle.std.proofs.lemmas.Cmp.{nat_list_cmp_total}
use Rattle.std.specs.List.{slice_get}
use Rattle.disk_model.specs.Names.{IsBelow, IsInOrder}

-- it comes after all of them
pub after_last : (names : List (List ℕ)) (i : ℕ) (last name : List ℕ) → IsInOrder names → length names ≡ i + 1 → slice_get names i ≡ Some last
    → IsBelow last name → All (λ earlier. IsBelow earlier name) names
after_last names i last name order end is below k d within = elim (cases_lt k i) [
  | inl early ↦ nat_list_cmp_total.trans (get_or names k d) last name
      (subst (λ (text : List ℕ). IsBelow (get_or names k d) text) (get_or_from_slice_get names i last d is) (order k i d early (omega (arith, end, within, early)))) below
  | inr late ↦
      let same : i ≡ k = omega (arith, late, end, within) in
      subst (λ (n : ℕ). IsBelow (get_or names n d) name) same
      (subst (λ (text : List ℕ). IsBelow text name) (sym (get_or_from_slice_get names i last d is)) below)
]
