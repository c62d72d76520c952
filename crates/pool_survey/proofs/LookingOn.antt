-- Runs of calls that only look, one after another.
use Rattle.std.proofs.Common.{◌≡◌, ◌≢◌, ◌≤◌, ℕ, List, [], ◌∷◌, inl, inr, ◌⊎◌, Option, Some, Contains, sym, ◌∙◌, subst, ap, arith}
use Rattle.std.specs.Prelude.{◌↔◌, IsSome}
use Rattle.std.proofs.lemmas.Option.{same_Some}
use Rattle.disk_model.specs.declared.disks.PoolDisks.{Ghosts}
use Rattle.disk_model.specs.Files.{Files}
use Rattle.disk_model.specs.Worlds.{World}
use Rattle.disk_model.specs.Told.{IsWorldOf, InEachWorld, CanLeave, PicksOne}
use Rattle.disk_model.specs.Moments.{Elapses}
use Rattle.disk_model.specs.Looking.{TellOne}
use Rattle.disk_model.proofs.Laws.{only_one, has_one, some_world, told_list, is_told}
use Rattle.pool_survey.specs.Remaining.{Remains}
use Rattle.pool_survey.proofs.Told.{runs}

-- where one world is told at most, two that are told are the same
same_world : {told : Option (List World)} → TellOne told → (a b : World) → IsWorldOf told a → IsWorldOf told b → a ≡ b
same_world {told} one a b is_a is_b =
    let only = one is_a.0 is_a.1 in
    let same : is_b.0 ≡ is_a.0 = same_Some _ _ (sym is_b.1 ∙ is_a.1) in
    let first : only.0 ≡ a = only_one only.0 a (subst (λ worlds. Contains worlds a) only.1 is_a.2) in
    let second : only.0 ≡ b = only_one only.0 b (subst (λ worlds. Contains worlds b) (same ∙ only.1) is_b.2) in
    sym first ∙ second

-- what one world can leave stays so over calls that look
module _ {mid new : Option (List World)} (one : TellOne mid) (remains : Remains mid new) (honest : IsSome mid ↔ IsSome new) (not_empty : new ≢ Some []) where
  leaves_on : (image : Files) → CanLeave mid image → CanLeave new image
  leaves_on image leaves =
      let next = some_world new not_empty (honest.0 (is_told mid leaves.1.0 leaves.1.1)) in
      let same : leaves.0 ≡ next.0 = same_world one leaves.0 next.0 leaves.1 (remains next.0 next.1) in
      (leaves.0, subst (IsWorldOf new) (sym same) next.1, leaves.2)

  left_before : (image : Files) → CanLeave new image → CanLeave mid image
  left_before image leaves = (leaves.0, remains leaves.0 leaves.1, leaves.2)

-- the same time, said of the same images
elapses_as : {before now : ℕ} {past since : ℕ → Files → Type 0} {can can' : Files → Type 0} → ((image : Files) → can image → can' image)
    → ((image : Files) → can' image → can image) → Elapses before now past since can → Elapses before now past since can'
elapses_as to from time = record {
  later = time.later;
  nothing_else = λ t image left. elim (time.nothing_else t image left) [ inl earlier ↦ inl earlier | inr here ↦ inr (to image here) ];
  keeps = time.keeps;
  still = λ same image leaves. time.still same image (from image leaves);
}

-- Calls that looked: each world is one from before them, no count fell, no number was given, and the volumes are the same.
pub record Looks {D S T R : Type 0} (g : Ghosts D S T R) (old new : D) : Type 0 where
  pub remains : Remains (g.worlds old) (g.worlds new)
  pub honest : IsSome (g.worlds old) ↔ IsSome (g.worlds new)
  pub time : Elapses (g.moment old) (g.moment new) (g.left_since old) (g.left_since new) (CanLeave (g.worlds new))
  pub faults : g.faults old ≤ g.faults new
  pub absences : g.absences old ≤ g.absences new
  pub numbers : g.next_number new ≡ g.next_number old
  pub volumes : g.volume_count new ≡ g.volume_count old

module _ {D S T R : Type 0} {g : Ghosts D S T R} where
  -- by what a call's clauses say
  pub looks_by : {old new : D} → Remains (g.worlds old) (g.worlds new) → (IsSome (g.worlds old) ↔ IsSome (g.worlds new))
      → Elapses (g.moment old) (g.moment new) (g.left_since old) (g.left_since new) (CanLeave (g.worlds new)) → g.faults old ≤ g.faults new
      → g.absences old ≤ g.absences new → g.next_number new ≡ g.next_number old → g.volume_count new ≡ g.volume_count old → Looks g old new
  looks_by remains honest time faults absences numbers volumes =
      record { remains = remains; honest = honest; time = time; faults = faults; absences = absences; numbers = numbers; volumes = volumes }

  -- two runs, of which the first made no call or left one world at most
  pub looks_then : (first mid new : D) → (mid ≡ first) ⊎ TellOne (g.worlds mid) → g.worlds new ≢ Some [] → Looks g first mid → Looks g mid new → Looks g first new
  looks_then first mid new (inl same) not_empty before call = subst (λ disks. Looks g disks new) same call
  looks_then first mid new (inr one) not_empty before call = record {
    remains = λ world is. before.remains world (call.remains world is);
    honest = (λ some. call.honest.0 (before.honest.0 some), λ some. before.honest.1 (call.honest.1 some));
    time = runs (elapses_as (leaves_on one call.remains call.honest not_empty) (left_before one call.remains call.honest not_empty) before.time) call.time;
    faults = omega (arith, before.faults, call.faults);
    absences = omega (arith, before.absences, call.absences);
    numbers = call.numbers ∙ before.numbers;
    volumes = call.volumes ∙ before.volumes;
  }

-- one world at most is left, with the answer: it was picked
pub picked_one : (HasAnswer : World → Type 0) (old new : Option (List World)) → Remains old new → (IsSome old ↔ IsSome new) → TellOne new
    → InEachWorld new HasAnswer → PicksOne HasAnswer (λ world. world) old new
picked_one HasAnswer old new remains honest one answered = record {
  honest = honest;
  picked = λ worlds is.
      let after = told_list new (honest.0 (is_told old worlds is)) in
      let only = one after.0 after.1 in
      let told_is : new ≡ Some (only.0 ∷ []) = after.1 ∙ ap Some only.1 in
      let is_world : IsWorldOf new only.0 = (only.0 ∷ [], told_is, has_one only.0) in
      let was = remains only.0 is_world in
      let same : was.0 ≡ worlds = same_Some _ _ (sym was.1 ∙ is) in
      (only.0, subst (λ ws. Contains ws only.0) same was.2, answered only.0 is_world, told_is);
}
