-- What follows from the rules of the calls, for code that is generic in the disks.
use Rattle.std.proofs.Common.{◌≡◌, ℕ, zero, suc, inl, inr, List, [], ◌∷◌, refl, sym, ◌∙◌, subst, arith, Option, None, Some, IsSome, Contains}
use Rattle.std.proofs.lemmas.Option.{same_Some}
use Rattle.disk_model.specs.Files.{Files}
use Rattle.disk_model.specs.Worlds.{World}
use Rattle.disk_model.specs.Told.{IsWorldOf, InEachWorld, Leaves, CanLeave, PicksOne, StandsBeforeOrAfter}
use Rattle.disk_model.specs.Moments.{Elapses, AddsOnly}

-- the only element of a list of one
pub only_one : {X : Type 0} (x y : X) → Contains (x ∷ []) y → x ≡ y
only_one x y (zero, below, is) = is
only_one x y (suc k, below, is) = absurd (omega arith)

pub has_one : {X : Type 0} (x : X) → Contains (x ∷ []) x
has_one x = (0, omega arith, refl)

-- a list that isn't empty has an element
pub some_world : (told : Option (List World)) → (told ≡ Some [] → ⊥) → IsSome told → (world : World) × IsWorldOf told world
some_world None not_empty is = absurd (cc is)
some_world (Some []) not_empty is = absurd (not_empty refl)
some_world (Some (world ∷ worlds)) not_empty is = (world, (world ∷ worlds, refl, (0, omega arith, refl)))

-- what is told is some list
pub told_list : (told : Option (List World)) → IsSome told → (worlds : List World) × (told ≡ Some worlds)
told_list None is = absurd (cc is)
told_list (Some worlds) is = (worlds, refl)

pub is_told : (told : Option (List World)) (worlds : List World) → told ≡ Some worlds → IsSome told
is_told told worlds is = rw is refl

module _ {HasAnswer : World → Type 0} {change : World → World} {old new : Option (List World)} where
  -- each world after a call that was done comes from one before it that has the answer
  pub from_done : PicksOne HasAnswer change old new → (world : World) → IsWorldOf new world
      → (was : World) × IsWorldOf old was × HasAnswer was × (world ≡ change was)
  from_done call world is =
      let before = told_list old (call.honest.1 (is_told new is.0 is.1)) in
      let picked = call.picked before.0 before.1 in
      let one = same_Some _ _ (sym picked.3 ∙ is.1) in
      let same = only_one (change picked.0) world (subst (λ worlds. Contains worlds world) (sym one) is.2) in
      (picked.0, (before.0, before.1, picked.1), picked.2, sym same)

  -- a fact that the call keeps or makes holds in every world after a call that was done
  pub each_after_done : (P Q : World → Type 0) → PicksOne HasAnswer change old new → InEachWorld old P
      → ((world : World) → IsWorldOf old world → HasAnswer world → P world → Q (change world)) → InEachWorld new Q
  each_after_done P Q call holds keeps world is =
      let from = from_done call world is in
      subst Q (sym from.3) (keeps from.0 from.1 from.2 (holds from.0 from.1))

module _ {change : World → World} {old new : Option (List World)} where
  -- a fact that the call keeps or makes holds in every world after a call that failed
  pub each_after_failed : (P Q : World → Type 0) → StandsBeforeOrAfter change old new → InEachWorld old P
      → ((world : World) → IsWorldOf old world → P world → Q world) → ((world : World) → IsWorldOf old world → P world → Q (change world)) → InEachWorld new Q
  each_after_failed P Q call holds stays keeps world is =
      let from = call.each world is in
      elim from.2 [
        | inl same ↦ subst Q (sym same) (stays from.0 from.1 (holds from.0 from.1))
        | inr changed ↦ subst Q (sym changed) (keeps from.0 from.1 (holds from.0 from.1))
      ]

-- what each world can leave, the disk can leave
pub images : {told : Option (List World)} (Q : World → Type 0) (P : Files → Type 0) → InEachWorld told Q
    → ((world : World) (image : Files) → Q world → Leaves world image → P image) → (image : Files) → CanLeave told image → P image
images Q P holds leads image leaves = leads leaves.0 image (holds leaves.0 leaves.1) leaves.2

-- a call goes on from a run
pub goes_on : {before now : ℕ} {first past since : ℕ → Files → Type 0} {can_leave : Files → Type 0} (P : Files → Type 0)
    → AddsOnly first past P → Elapses before now past since can_leave → ((image : Files) → can_leave image → P image) → AddsOnly first since P
goes_on P run call leads t image left = elim (call.nothing_else t image left) [ inl earlier ↦ run t image earlier | inr here ↦ inr (leads image here) ]

-- a run that made no call yet
pub no_call : (first : ℕ → Files → Type 0) (P : Files → Type 0) → AddsOnly first first P
no_call first P t image left = inl left

-- two runs in a row
pub joins : {first middle last : ℕ → Files → Type 0} (P Q R : Files → Type 0) → AddsOnly first middle P → AddsOnly middle last Q
    → ((image : Files) → P image → R image) → ((image : Files) → Q image → R image) → AddsOnly first last R
joins P Q R one two from_one from_two t image left = elim (two t image left) [
  | inr second ↦ inr (from_two image second)
  | inl earlier ↦ elim (one t image earlier) [ inl before ↦ inl before | inr first ↦ inr (from_one image first) ]
]

-- A run of calls: each world has Q, and whatever some moment of the run could have left has P.
pub record Run (Q : World → Type 0) (P : Files → Type 0) (first : ℕ → Files → Type 0) (told : Option (List World)) (since : ℕ → Files → Type 0) : Type 0 where
  pub each : InEachWorld told Q
  pub adds : AddsOnly first since P

module _ (Q : World → Type 0) (P : Files → Type 0) (leads : (world : World) (image : Files) → Q world → Leaves world image → P image) where
  pub begins : {told : Option (List World)} (first : ℕ → Files → Type 0) → InEachWorld told Q → Run Q P first told first
  begins first holds = record { each = holds; adds = no_call first P }

  -- a call goes on, whatever it answers
  pub calls : {first past since : ℕ → Files → Type 0} {old new : Option (List World)} {before now : ℕ} (change : World → World)
      → Run Q P first old past → StandsBeforeOrAfter change old new → Elapses before now past since (CanLeave new)
      → ((world : World) → IsWorldOf old world → Q world → Q (change world)) → Run Q P first new since
  calls change run call time keeps =
      let holds = each_after_failed Q Q call run.each (λ world is has. has) keeps in
      record { each = holds; adds = goes_on P run.adds time (λ image leaves. images Q P holds leads image leaves) }
