-- A draft that stands is on one of the volumes.
use Rattle.std.proofs.Common.{◌≡◌, ℕ, zero, suc, ◌≤◌, List, [], ◌∷◌, Bool, true, refl, sym, subst, arith, inl, inr, Option, Contains}
use Rattle.std.specs.List.{list_any}
use Rattle.std.proofs.lemmas.Bool.{cases_Bool, both_ways}
use Rattle.disk_model.specs.Worlds.{DraftPlace, World, stands_at}
use Rattle.disk_model.specs.Told.{IsWorldOf, StandsWithin, StillStands}
use Rattle.disk_model.specs.Places.{is_place_self}

-- a test that an element passes is passed by some
any_of : {X : Type 0} (test : X → Bool) (x : X) → test x ≡ true → (xs : List X) → Contains xs x → list_any test xs ≡ true
any_of test x passes [] (k, within, is) = absurd (omega (arith, within))
any_of test x passes (y ∷ xs) (zero, within, is) =
    let first : test y ≡ true = subst (λ z. test z ≡ true) (sym is) passes in
    rw first refl
any_of test x passes (y ∷ xs) (suc k, within, is) =
    let rest = any_of test x passes xs (k, omega (arith, within), is) in
    elim (cases_Bool (test y)) [ inl here ↦ rw here refl | inr other ↦ rw other rest ]

pub draft_within : (told : Option (List World)) (world : World) (count : ℕ) (draft : DraftPlace) → IsWorldOf told world → StandsWithin count told → StillStands told draft
    → (1 ≤ draft.vol) × (draft.vol ≤ count)
draft_within told world count draft is within stands =
    let has = any_of (stands_at draft.vol draft.path) draft (is_place_self draft.vol draft.path) world.drafts (stands world is) in
    within world is draft.vol draft.path (λ absent. both_ways _ absent.no_draft has)
