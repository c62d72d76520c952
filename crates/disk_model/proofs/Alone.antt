-- What calls leave alone, one after another.
use Rattle.std.proofs.Common.{◌≡◌, ◌≢◌, ℕ, Contains, inl, inr, Bool, true, false, not, List, [], ◌∷◌, Option, Some, filter, refl, sym, ◌∙◌, subst, ap}
use Rattle.std.specs.List.{list_any}
use Rattle.std.proofs.lemmas.Bool.{cases_Bool, false_from_ne_true}
use Rattle.disk_model.specs.Files.{Files, is_place}
use Rattle.disk_model.specs.Worlds.{DraftPlace, World, stands_at, has_draft, created, removed, settled_at, published}
use Rattle.disk_model.specs.Places.{same_place}
use Rattle.disk_model.specs.Told.{IsWorldOf, CanLeave, StandsBeforeOrAfter}
use Rattle.disk_model.specs.Moments.{Elapses}
use Rattle.disk_model.specs.Alone.{AreAlike, ComesAlike, LeftAlike, LeavesAlone, KeepsFiles}
use Rattle.disk_model.proofs.Laws.{only_one}
use Rattle.std.proofs.lemmas.Option.{same_Some}

-- two places of different paths are apart
place_apart : (vol : ℕ) (path : List ℕ) (v : ℕ) (p : List ℕ) → p ≢ path → is_place vol path v p ≡ false
place_apart vol path v p apart = false_from_ne_true (is_place vol path v p) (λ same. apart (sym (same_place vol path v p same).1))

-- a list from which nothing is dropped that passes a test
any_kept : {X : Type 0} (test keep : X → Bool) (xs : List X) → ((x : X) → test x ≡ true → keep x ≡ true) → list_any test (filter keep xs) ≡ list_any test xs
any_kept test keep [] keeps = refl
any_kept test keep (x ∷ xs) keeps =
    let rest = any_kept test keep xs keeps in
    elim (cases_Bool (test x)) [
      | inl passes ↦ rw (keeps x passes) (rw passes refl)
      | inr fails ↦ elim (cases_Bool (keep x)) [ inl kept ↦ rw kept (rw fails rest) | inr gone ↦ rw gone (rw fails rest) ]
    ]

-- drafts at another path stay
drafts_kept : (v : ℕ) (p : List ℕ) (vol : ℕ) (path : List ℕ) (drafts : List DraftPlace) → path ≢ p
    → list_any (stands_at vol path) (filter (λ d. not (stands_at v p d)) drafts) ≡ list_any (stands_at vol path) drafts
drafts_kept v p vol path drafts apart = any_kept (stands_at vol path) (λ d. not (stands_at v p d)) drafts
    (λ d here. let there = same_place d.vol d.path vol path here in
    rw (place_apart d.vol d.path v p (λ same. apart (sym there.1 ∙ sym same))) refl)

module _ (Kept : List ℕ → Type 0) where
  pub alike_same : (world : World) → AreAlike Kept world world
  alike_same world vol path kept = record { settled = refl; draft = refl }

  pub alike_then : (was between now : World) → AreAlike Kept was between → AreAlike Kept between now → AreAlike Kept was now
  alike_then was between now one two vol path kept = record {
    settled = (two vol path kept).settled ∙ (one vol path kept).settled;
    draft = (two vol path kept).draft ∙ (one vol path kept).draft;
  }

  -- each call changes only what stands at its paths
  pub alike_removed : (v : ℕ) (p : List ℕ) (world : World) → ((path : List ℕ) → Kept path → path ≢ p) → AreAlike Kept world (removed v p world)
  alike_removed v p world apart vol path kept = record {
    settled = rw (place_apart v p vol path (apart path kept)) refl;
    draft = drafts_kept v p vol path world.drafts (apart path kept);
  }

  pub alike_settled : (v : ℕ) (p bytes : List ℕ) (world : World) → ((path : List ℕ) → Kept path → path ≢ p) → AreAlike Kept world (settled_at v p bytes world)
  alike_settled v p bytes world apart vol path kept = record {
    settled = rw (place_apart v p vol path (apart path kept)) refl;
    draft = drafts_kept v p vol path world.drafts (apart path kept);
  }

  pub alike_created : (draft : DraftPlace) (world : World) → ((path : List ℕ) → Kept path → path ≢ draft.path) → AreAlike Kept world (created draft world)
  alike_created draft world apart vol path kept = record {
    settled = rw (place_apart draft.vol draft.path vol path (apart path kept)) refl;
    draft = rw (place_apart draft.vol draft.path vol path (apart path kept)) refl;
  }

  pub alike_published : (draft : DraftPlace) (bytes target : List ℕ) (world : World) → ((path : List ℕ) → Kept path → path ≢ draft.path)
      → ((path : List ℕ) → Kept path → path ≢ target) → AreAlike Kept world (published draft bytes target world)
  alike_published draft bytes target world apart apart_too =
      alike_then world (removed draft.vol draft.path world) (published draft bytes target world)
      (alike_removed draft.vol draft.path world apart) (alike_settled draft.vol target bytes (removed draft.vol draft.path world) apart_too)

  -- no call
  pub alone_same : (told : Option (List World)) (past : ℕ → Files → Type 0) → LeavesAlone Kept told told past past
  alone_same told past = record {
    worlds = λ world is. (world, is, alike_same world);
    images = λ t image left. inl left;
  }

  -- two runs of calls
  pub alone_then : {first middle last : Option (List World)} {past between since : ℕ → Files → Type 0}
      → LeavesAlone Kept first middle past between → LeavesAlone Kept middle last between since → LeavesAlone Kept first last past since
  alone_then {first} {middle} {last} {past} {between} {since} one two =
      let comes : (now : World) → ComesAlike Kept middle now → ComesAlike Kept first now =
      λ now from. let was = one.worlds from.0 from.1 in (was.0, was.1, alike_then was.0 from.0 now was.2 from.2) in
      record {
        worlds = λ world is. comes world (two.worlds world is);
        images = λ t image left. elim (two.images t image left) [
          | inr new ↦ inr (new.0, comes new.0 new.1, new.2)
          | inl earlier ↦ one.images t image earlier
        ];
      }

  -- one call that changes nothing at these paths
  pub alone_call : {old new : Option (List World)} {before now : ℕ} {past since : ℕ → Files → Type 0} (change : World → World)
      → ((world : World) → AreAlike Kept world (change world)) → StandsBeforeOrAfter change old new → Elapses before now past since (CanLeave new)
      → LeavesAlone Kept old new past since
  alone_call {old} {new} {before} {now} {past} {since} change keeps call time =
      let comes : (world : World) → IsWorldOf new world → ComesAlike Kept old world =
      λ world is. let from = call.each world is in elim from.2 [
        | inl same ↦ (from.0, from.1, subst (AreAlike Kept from.0) (sym same) (alike_same from.0))
        | inr changed ↦ (from.0, from.1, subst (AreAlike Kept from.0) (sym changed) (keeps from.0))
      ] in
      record {
        worlds = comes;
        images = λ t image left. elim (time.nothing_else t image left) [
          | inl earlier ↦ inl earlier
          | inr here ↦ inr (here.0, comes here.0 here.1, here.2)
        ];
      }

  -- of one image that is told, all that can be left has the files
  pub left_keeps : (start : Files) (told : Option (List World)) → told ≡ Some (record { settled = start; drafts = [] } ∷ [])
      → (image : Files) → LeftAlike Kept told image → KeepsFiles Kept start image
  left_keeps start told is image left vol path kept =
      let alike = left.1.2 vol path kept in
      let one : record { settled = start; drafts = [] } ≡ left.1.0 =
      only_one _ _ (subst (λ worlds. Contains worlds left.1.0) (same_Some _ _ (sym left.1.1.1 ∙ is)) left.1.1.2) in
      let no_draft : has_draft left.0 vol path ≡ false = alike.draft ∙ ap (λ (world : World). has_draft world vol path) (sym one) in
      left.2.settled vol path no_draft ∙ alike.settled ∙ ap (λ (world : World). world.settled vol path) (sym one)

  pub can_leave_alike : (told : Option (List World)) (image : Files) → CanLeave told image → LeftAlike Kept told image
  can_leave_alike told image leaves = (leaves.0, (leaves.0, leaves.1, alike_same leaves.0), leaves.2)
