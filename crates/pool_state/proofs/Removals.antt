-- Removing files of a block, one after the other.
use Rattle.std.proofs.Common.{◌≡◌, ◌⊎◌, ◌<◌, ◌≤◌, get_or, inl, inr, ℕ, suc, List, [], ◌∷◌, ◌++◌, length, take, Option, refl, sym, ◌∙◌, ap, subst}
use Rattle.std.proofs.Math.Seq.{take-suc}
use Rattle.std.proofs.lemmas.List.{take_all}
use Rattle.disk_model.specs.Files.{Files}
use Rattle.disk_model.specs.Worlds.{World}
use Rattle.disk_model.specs.Told.{CanLeave}
use Rattle.volume_layout.specs.declared.block_file.BlockFile.{BlockFile}
use Rattle.map_model.specs.Slots.{View, remove_in}
use Rattle.map_model.specs.Tenures.{Fails, remove_all}
use Rattle.pool_state.specs.Reaching.{ComesFrom, Reaches, Stays, Then, RemovesSome, RemovesAll, RemovesFiles}
use Rattle.pool_state.proofs.Reaching.{reaches_same, reaches_then}

-- a step that another one is
pub reaches_as : (id : ℕ) (one two : View → View → Type 0) (old new : Option (List World)) → Reaches id one old new →
    ((before after : View) → one before after → two before after) → Reaches id two old new
reaches_as id one two old new reaches is_so = record {
  each = λ world is.
      let from : ComesFrom id one old world = reaches.each world is in
      record { was = from.was; is = from.is; stepped = is_so _ _ from.stepped; others = from.others; aside = from.aside };
}

-- the files before the next one, and that one
pub all_but_next : (view : View) (vol : ℕ) (files : List BlockFile) (next : BlockFile) → remove_all view vol (files ++ next ∷ []) ≡ remove_in (remove_all view vol files) vol next
all_but_next view vol [] next = refl
all_but_next view vol (file ∷ files) next = all_but_next (remove_in view vol file) vol files next

-- as far as the removals have come
pub record RemovedSoFar (id vol : ℕ) (files : List BlockFile) (at : ℕ) (old now : Option (List World)) (past since : ℕ → Files → Type 0) : Type 0 where
  pub reached : Reaches id (RemovesAll vol (take at files)) old now
  pub moments : (t : ℕ) (image : Files) → since t image →
      past t image ⊎ ((told : Option (List World)) × Reaches id (RemovesSome vol files) old told × CanLeave told image)

module _ {id vol : ℕ} {files : List BlockFile} {at : ℕ} {old now new : Option (List World)} {past mid since : ℕ → Files → Type 0} (so_far : RemovedSoFar id vol files at old now past mid)
    (file : BlockFile) (next : take (suc at) files ≡ take at files ++ file ∷ []) (time : (t : ℕ) (image : Files) → since t image → mid t image ⊎ CanLeave new image) where
  one_more : (before after : View) → Then (RemovesAll vol (take at files)) (λ v w. w ≡ remove_in v vol file) before after → RemovesAll vol (take (suc at) files) before after
  one_more before after stepped = stepped.2 ∙ ap (λ v. remove_in v vol file) stepped.1
      ∙ sym (all_but_next before vol (take at files) file) ∙ ap (remove_all before vol) (sym next)

  -- the next removal is done
  pub next_removed : Reaches id (λ before after. after ≡ remove_in before vol file) now new → RemovedSoFar id vol files (suc at) old new past since
  next_removed removal =
      let reached = reaches_as id _ _ _ _ (reaches_then id _ _ _ _ _ so_far.reached removal) one_more in
      record {
        reached = reached;
        moments = λ t image s. elim (time t image s) [
          | inl earlier ↦ so_far.moments t image earlier
          | inr leaves ↦ inr (new, reaches_as id _ _ _ _ reached (λ before after all. (suc at, all)), leaves)
        ];
      }

  some_more : (before after : View) → Then (RemovesAll vol (take at files)) (λ v w. Fails v (remove_in v vol file) w) before after → RemovesSome vol files before after
  some_more before after stepped = elim stepped.2 [
    | inl same ↦ (at, same ∙ stepped.1)
    | inr gone ↦ (suc at, one_more before after (stepped.0, stepped.1, gone))
  ]

  -- the next removal fails
  pub removal_fails : (done : Type 0) → (done → ⊥) → Reaches id (λ before after. Fails before (remove_in before vol file) after) now new → RemovesFiles id vol files done old new past since
  removal_fails done never removal =
      let reached = reaches_as id _ _ _ _ (reaches_then id _ _ _ _ _ so_far.reached removal) some_more in
      record {
        some = reached;
        all = λ is. absurd (never is);
        moments = λ t image s. elim (time t image s) [
          | inl earlier ↦ so_far.moments t image earlier
          | inr leaves ↦ inr (new, reached, leaves)
        ];
      }

-- no removal yet
pub none_removed : (id vol : ℕ) (files : List BlockFile) (old : Option (List World)) (past : ℕ → Files → Type 0) → RemovedSoFar id vol files 0 old old past past
none_removed id vol files old past = record { reached = reaches_as id Stays (RemovesAll vol (take 0 files)) old old (reaches_same id old old refl) (λ before after same. same); moments = λ t image s. inl s }

-- all removals are done
pub all_removed : {id vol : ℕ} {files : List BlockFile} {at : ℕ} {old now : Option (List World)} {past since : ℕ → Files → Type 0} → RemovedSoFar id vol files at old now past since →
    take at files ≡ files → (done : Type 0) → RemovesFiles id vol files done old now past since
all_removed {id = id} {vol = vol} {files = files} {at = at} {old = old} {now = now} so_far whole done = record {
  some = reaches_as id (RemovesAll vol (take at files)) (RemovesSome vol files) old now so_far.reached (λ before after all. (at, all));
  all = λ is. subst (λ fs. Reaches id (RemovesAll vol fs) old now) whole so_far.reached;
  moments = so_far.moments;
}

-- the files up to one of them
pub files_up_to : (files : List BlockFile) (at : ℕ) (file : BlockFile) → at < length files → file ≡ get_or files at file →
    take (suc at) files ≡ take at files ++ file ∷ []
files_up_to files at file within is = take-suc files at file within ∙ ap (λ f. take at files ++ f ∷ []) (sym is)

-- and all of them
pub files_all : (files : List BlockFile) (at : ℕ) → length files ≤ at → take at files ≡ files
files_all files at past = take_all at files past
