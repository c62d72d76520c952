-- What disks tell after calls that look.
use Rattle.std.proofs.Common.{◌≡◌, ◌≤◌, ℕ, List, [], ◌∷◌, inl, inr, ◌⊎◌, Option, None, Some, Contains, refl, sym, ◌∙◌, subst, ap, arith}
use Rattle.std.specs.Prelude.{◌↔◌, IsSome, is_some}
use Rattle.std.proofs.lemmas.Bool.{false≢true}
use Rattle.std.proofs.lemmas.Option.{same_Some}
use Rattle.disk_model.specs.declared.disks.PoolDisks.{Ghosts}
use Rattle.disk_model.specs.Files.{Files}
use Rattle.disk_model.specs.Worlds.{World}
use Rattle.disk_model.specs.Told.{IsWorldOf, InEachWorld, CanLeave, PicksOne}
use Rattle.disk_model.specs.Moments.{Elapses}
use Rattle.disk_model.proofs.Laws.{only_one, from_done, told_list, is_told}
use Rattle.disk_model.specs.Causes.{Rose}
use Rattle.disk_model.specs.Looking.{TellOne, HaveLooked}
use Rattle.pool_survey.specs.Remaining.{Remains}

not_some : (told : Option (List World)) → (IsSome told → ⊥) → told ≡ None
not_some None not = refl
not_some (Some worlds) not = absurd (not refl)

none_told : (old new : Option (List World)) → (IsSome old ↔ IsSome new) → old ≡ None → new ≡ None
none_told old new honest none = not_some new (λ some. false≢true (sym (ap is_some none) ∙ honest.1 some))

cases_told : (told : Option (List World)) → (told ≡ None) ⊎ ((worlds : List World) × (told ≡ Some worlds))
cases_told None = inl refl
cases_told (Some worlds) = inr (worlds, refl)

module _ {HasAnswer : World → Type 0} {old new : Option (List World)} (call : PicksOne HasAnswer (λ world. world) old new) where
  -- after a call that looked the disks tell one world at most, which has the answer
  pub tell_one : TellOne new
  tell_one worlds is =
      let before = told_list old (call.honest.1 (is_told new worlds is)) in
      let picked = call.picked before.0 before.1 in
      (picked.0, same_Some _ _ (sym is ∙ picked.3))

  pub answered : InEachWorld new HasAnswer
  answered world is =
      let from = from_done call world is in
      subst HasAnswer (sym from.3) from.2

  pub remains : Remains old new
  remains world is =
      let from = from_done call world is in
      subst (IsWorldOf old) (sym from.3) from.1

  -- where they told one world, they tell it still
  pub stays : TellOne old → new ≡ old
  stays one = elim (cases_told old) [
    | inl none ↦ none_told old new call.honest none ∙ sym none
    | inr some ↦
        let only = one some.0 some.1 in
        let picked = call.picked some.0 some.1 in
        let same : only.0 ≡ picked.0 = only_one only.0 picked.0 (subst (λ worlds. Contains worlds picked.0) only.1 picked.1) in
        picked.3 ∙ ap (λ world. Some (world ∷ [])) (sym same) ∙ ap Some (sym only.1) ∙ sym some.1
  ]

-- ---- moments

-- two runs in a row that leave the same images
pub runs : {before between now : ℕ} {past middle since : ℕ → Files → Type 0} {can : Files → Type 0} →
    Elapses before between past middle can → Elapses between now middle since can → Elapses before now past since can
runs {before} {between} {now} {past} first second = record {
  later = (let a : before ≤ between = first.later in let b : between ≤ now = second.later in omega (arith, a, b));
  nothing_else = λ t image left. elim (second.nothing_else t image left) [
    | inl earlier ↦ elim (first.nothing_else t image earlier) [ inl long ↦ inl long | inr here ↦ inr here ]
    | inr here ↦ inr here
  ];
  keeps = λ t image left. second.keeps t image (first.keeps t image left);
  still = λ same image leaves.
      let a : before ≤ between = first.later in
      let b : between ≤ now = second.later in
      let between_is : between ≡ before = omega (arith, a, b, same) in
      let now_is : between ≡ now = omega (arith, a, b, same) in
      subst (λ t. past t image) now_is (first.still between_is image leaves);
}

-- the second run where it tells what it told
pub runs_on : {before between now : ℕ} {past middle since : ℕ → Files → Type 0} {told told' : Option (List World)} → told' ≡ told →
    Elapses before between past middle (CanLeave told) → Elapses between now middle since (CanLeave told') → Elapses before now past since (CanLeave told')
runs_on {before} {between} {now} {past} {middle} {since} {told} {told'} same first second =
    runs (subst (λ t. Elapses before between past middle (CanLeave t)) (sym same) first) second

-- no call at all
pub no_run : (now : ℕ) (past : ℕ → Files → Type 0) (can : Files → Type 0) → ((image : Files) → can image → past now image) → Elapses now now past past can
no_run now past can counts = record {
  later = omega arith;
  nothing_else = λ t image left. inl left;
  keeps = λ t image left. left;
  still = λ same image leaves. counts image leaves;
}

-- the count that rose in a later call rose since an earlier one
pub rose_since : (before between now : ℕ) → before ≤ between → Rose between now → Rose before now
rose_since before between now later rose = omega (arith, later, rose)

module _ {D S T R : Type 0} {g : Ghosts D S T R} where
  pub looked_on : {old mid new : D} → HaveLooked g old mid → HaveLooked g mid new → HaveLooked g old new
  looked_on {old} {mid} {new} first second = record {
    worlds = second.worlds ∙ first.worlds;
    time = runs_on second.worlds first.time second.time;
    faults = omega (arith, first.faults, second.faults);
    absences = omega (arith, first.absences, second.absences);
    numbers = second.numbers ∙ first.numbers;
    volumes = second.volumes ∙ first.volumes;
  }

  pub no_look : (disks : D) → ((image : Files) → CanLeave (g.worlds disks) image → g.left_since disks (g.moment disks) image) → HaveLooked g disks disks
  no_look disks counts = record {
    worlds = refl;
    time = no_run (g.moment disks) (g.left_since disks) (CanLeave (g.worlds disks)) counts;
    faults = omega arith;
    absences = omega arith;
    numbers = refl;
    volumes = refl;
  }
