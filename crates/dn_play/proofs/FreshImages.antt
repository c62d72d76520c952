-- Disks that were opened on an image have no drafts, so none that doesn't stand aside.
use Rattle.std.proofs.Common.{◌≡◌, List, [], Option, Result, Ok, Err, IfOk, false, refl, sym, ◌∙◌, subst, Contains}
use Rattle.std.proofs.lemmas.Option.{same_Some}
use Rattle.disk_model.specs.Files.{Files}
use Rattle.disk_model.specs.Worlds.{World, has_draft}
use Rattle.disk_model.specs.Told.{InEachWorld, IsFresh}
use Rattle.disk_model.proofs.Laws.{only_one}
use Rattle.map_model.specs.World.{DraftsAside}

-- a world without drafts
bare : Files → World
bare files = record { settled = files; drafts = [] }

pub fresh_aside : (told : Option (List World)) → IsFresh told → InEachWorld told DraftsAside
unfolding bare
fresh_aside told fresh world is vol path apart =
    let one : bare fresh.0 ≡ world = only_one (bare fresh.0) world (subst (λ (worlds : List World). Contains worlds world) (same_Some _ _ (sym is.1 ∙ fresh.1)) is.2) in
    subst (λ (w : World). has_draft w vol path ≡ false) one refl

pub each_fresh : {T E : Type 0} (result : Result T E) (told : T → Option (List World)) → IfOk result (λ x. IsFresh (told x)) → IfOk result (λ x. InEachWorld (told x) DraftsAside)
each_fresh (Ok x) told fresh = fresh_aside (told x) fresh
each_fresh (Err e) told fresh = tt
