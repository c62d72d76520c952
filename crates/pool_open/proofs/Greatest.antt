-- The greatest of some stamps, in a loop over them.
use Rattle.std.proofs.Common.{◌≡◌, ◌≤◌, ◌<◌, ◌+◌, ℕ, List, [], ◌∷◌, ◌++◌, Contains, take, get_or, length, sym, subst, inl, inr, arith}
use Rattle.std.proofs.lemmas.List.Elements.{All-push, All-weaker, Contains-append_left, Contains-append_right}
use Rattle.disk_model.proofs.Laws.{has_one}
use Rattle.volume_layout.specs.Paths.{IsStamp}
use Rattle.pool_open.specs.Found.{IsGreatestOf}
use Rattle.pool_open.proofs.Lists.{take_put}

-- a stamp that is greater, or not
module _ (least : ℕ) (stamps : List ℕ) (i stamp old now : ℕ) (within : i < length stamps) (is : stamp ≡ get_or stamps i stamp) (before : IsGreatestOf least (take i stamps) old) where
  pub greatest_put : IsStamp stamp → old < stamp → now ≡ stamp → IsGreatestOf least (take (i + 1) stamps) now
  greatest_put valid less same = subst (λ (l : List ℕ). IsGreatestOf least l now) (sym (take_put stamps i stamp within is)) (record {
    in_range = subst IsStamp (sym same) valid;
    at_least = omega (arith, before.at_least, less, same);
    above = All-push (λ other. other ≤ now) (take i stamps) stamp
        (All-weaker (λ other. other ≤ old) (λ other. other ≤ now) (λ other below. omega (arith, below, less, same)) (take i stamps) before.above) (omega (arith, same));
    one_of = inl (subst (λ n. Contains (take i stamps ++ stamp ∷ []) n) (sym same) (Contains-append_right (take i stamps) (stamp ∷ []) stamp (has_one stamp)));
  })

  pub greatest_stays : stamp ≤ old → now ≡ old → IsGreatestOf least (take (i + 1) stamps) now
  greatest_stays less same = subst (λ (l : List ℕ). IsGreatestOf least l now) (sym (take_put stamps i stamp within is)) (subst (λ n. IsGreatestOf least (take i stamps ++ stamp ∷ []) n) (sym same) (record {
    in_range = before.in_range;
    at_least = before.at_least;
    above = All-push (λ other. other ≤ old) (take i stamps) stamp before.above less;
    one_of = elim before.one_of [
      | inl has ↦ inl (Contains-append_left (take i stamps) (stamp ∷ []) old has)
      | inr kept ↦ inr kept
    ];
  }))
