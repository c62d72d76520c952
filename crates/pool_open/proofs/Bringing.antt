-- A table that is brought down entry by entry, and what was found in it then.
use Rattle.std.proofs.Common.{◌≡◌, ◌≢◌, ◌⊎◌, ◌<◌, ◌≤◌, inl, inr, ℕ, suc, List, [], ◌∷◌, ◌++◌, take, drop, Option, None, Some, All, length, get_or, refl, ap, sym, ◌∙◌, subst, arith}
use Rattle.std.specs.Ordering.{nat_cmp}
use Rattle.std.specs.Map.{lookup}
use Rattle.std.specs.BTreeMap.{BTreeMap, Updates, is_at, get}
use Rattle.std.specs.declared.vec.Vec.{Vec}
use Rattle.std.specs.declared.alloc.Global.{Global}
use Rattle.std.proofs.lemmas.Bool.{cases_eq, false_from_ne_true}
use Rattle.std.proofs.lemmas.Map.Lookups.{exact_unsigned}
use Rattle.std.proofs.lemmas.Map.Views.{tells_apart}
use Rattle.std.proofs.lemmas.Option.{none-some}
use Rattle.std.proofs.lemmas.List.{take_all, drop_all}
use Rattle.std.proofs.lemmas.List.Elements.{All-nil}
use Rattle.volume_layout.specs.Paths.{IsBlockId}
use Rattle.pool_survey.specs.declared.places.FoundOn.{FoundOn}
use Rattle.pool_survey.specs.Places.{HaveBlockIds, places_of}
use Rattle.pool_open.specs.Surplus.{HasFiles, IsBroughtDown, AreBroughtDown}
use Rattle.pool_open.proofs.Lists.{nothing_more}
use Rattle.pool_open.proofs.Placed.{places_here, no_places}

abbrev Table : Type 0
Table = BTreeMap ℕ (Vec FoundOn Global)

-- place by place
pub brought_each : (was now : List FoundOn) → length now ≡ length was → ((k : ℕ) (d : FoundOn) → k < length was → IsBroughtDown (get_or was k d) (get_or now k d)) → AreBroughtDown was now
brought_each [] [] long each = refl
brought_each [] (left ∷ now) long each = absurd (omega (arith, long))
brought_each (on ∷ was) [] long each = absurd (omega (arith, long))
brought_each (on ∷ was) (left ∷ now) long each =
    (each 0 on (omega arith), brought_each was now (omega (arith, long)) (λ k d inside. each (suc k) d (omega (arith, inside))))

-- there are as many
pub brought_length : (was now : List FoundOn) → AreBroughtDown was now → length now ≡ length was
brought_length [] now none = ap length none
brought_length (on ∷ was) [] down = absurd down
brought_length (on ∷ was) (left ∷ now) down = let rest = brought_length was now down.1 in omega (arith, rest)

-- and they are written back over the others
pub written_back : (was now : List FoundOn) (len : ℕ) → AreBroughtDown was now → length was ≤ len → take len (now ++ drop (length now) was) ≡ now
written_back was now len down long =
    let same = brought_length was now down in
    ap (λ (l : List FoundOn). take len (now ++ l)) (drop_all (length now) was (omega (arith, same)))
    ∙ ap (take len) (nothing_more now)
    ∙ take_all len now (omega (arith, same, long))

-- a block is still in the table, or it was brought down and put into the other one
abbrev pub IsUnderWay : (first blocks left : Table) → ℕ → Type 0
IsUnderWay first blocks left id =
    ((get nat_cmp blocks id ≡ get nat_cmp first id) × (get nat_cmp left id ≡ None)) ⊎ ((get nat_cmp blocks id ≡ None) × AreBroughtDown (places_of first id) (places_of left id))

module _ (before now : Table) (id : ℕ) (put : Option (Vec FoundOn Global)) (updates : Updates nat_cmp before now id put) where
  pub put_here : (other : ℕ) → other ≡ id → get nat_cmp now other ≡ put
  put_here other same = ap (get nat_cmp now) same ∙ updates.1

  pub put_apart : (other : ℕ) → other ≢ id → get nat_cmp now other ≡ get nat_cmp before other
  put_apart other apart = updates.2 other (false_from_ne_true (is_at (nat_cmp id) other) (λ at. apart (sym (tells_apart exact_unsigned id other at))))

  pub ids_put : HaveBlockIds before → ((found : Vec FoundOn Global) → put ≡ Some found → IsBlockId id) → HaveBlockIds now
  ids_put ids here other found is = elim (cases_eq other id) [
    | inl same ↦ subst IsBlockId (sym same) (here found (sym (put_here other same) ∙ is))
    | inr apart ↦ ids other found (sym (put_apart other apart) ∙ is)
  ]

-- a table that has no entry
pub nothing_left : (blocks : Table) → (0 < length blocks.entries → ⊥) → (id : ℕ) → get nat_cmp blocks id ≡ None
nothing_left blocks none id = ap (λ (entries : List (ℕ × Vec FoundOn Global)). lookup (is_at (nat_cmp id)) entries) (empty blocks.entries none)
  where
    empty : (entries : List (ℕ × Vec FoundOn Global)) → (0 < length entries → ⊥) → entries ≡ []
    empty [] none = refl
    empty (entry ∷ entries) none = absurd (none (omega arith))

same_places : (one other : Table) (id : ℕ) → get nat_cmp one id ≡ get nat_cmp other id → places_of one id ≡ places_of other id
same_places one other id same = rw same refl

module _ (first blocks popped left now : Table) (id : ℕ) (found put : Vec FoundOn Global) (is : get nat_cmp blocks id ≡ Some found)
    (taken : Updates nat_cmp blocks popped id None) (inserted : Updates nat_cmp left now id (Some put)) where
  pub files_taken : ((other : ℕ) → All HasFiles (places_of blocks other)) → (other : ℕ) → All HasFiles (places_of popped other)
  files_taken files other = elim (cases_eq other id) [
    | inl same ↦ subst (λ (l : List FoundOn). All HasFiles l) (sym (no_places popped other (put_here blocks popped id None taken other same))) (All-nil HasFiles)
    | inr apart ↦ subst (λ (l : List FoundOn). All HasFiles l) (sym (same_places popped blocks other (put_apart blocks popped id None taken other apart))) (files other)
  ]

  pub way_on : AreBroughtDown found.items put.items → ((other : ℕ) → IsUnderWay first blocks left other) → (other : ℕ) → IsUnderWay first popped now other
  way_on down way other = elim (cases_eq other id) [
    | inl same ↦ inr (put_here blocks popped id None taken other same, subst (λ n. AreBroughtDown (places_of first n) (places_of now n)) (sym same) (here (way id)))
    | inr apart ↦ elim (way other) [
      | inl still ↦ inl (put_apart blocks popped id None taken other apart ∙ still.0, put_apart left now id (Some put) inserted other apart ∙ still.1)
      | inr done ↦ inr (
        put_apart blocks popped id None taken other apart ∙ done.0,
        subst (λ (l : List FoundOn). AreBroughtDown (places_of first other) l) (sym (same_places now left other (put_apart left now id (Some put) inserted other apart))) done.1,
      )
    ]
  ]
    where
      here : IsUnderWay first blocks left id → AreBroughtDown (places_of first id) (places_of now id)
      here (inl still) =
          subst (λ (l : List FoundOn). AreBroughtDown l (places_of now id)) (sym (places_here first id found (sym still.0 ∙ is)))
          (subst (λ (l : List FoundOn). AreBroughtDown found.items l) (sym (places_here now id put inserted.1)) down)
      here (inr done) = absurd (none-some found (sym done.0 ∙ is))

-- at the end
pub way_end : (first blocks left : Table) → ((id : ℕ) → get nat_cmp blocks id ≡ None) → ((id : ℕ) → IsUnderWay first blocks left id) → (id : ℕ) → AreBroughtDown (places_of first id) (places_of left id)
way_end first blocks left empty way id = by (way id)
  where
    by : IsUnderWay first blocks left id → AreBroughtDown (places_of first id) (places_of left id)
    by (inl still) =
        subst (λ (l : List FoundOn). AreBroughtDown l (places_of left id)) (sym (no_places first id (sym still.0 ∙ empty id)))
        (no_places left id still.1)
    by (inr done) = done.1
