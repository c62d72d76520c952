-- What calls leave alone: at some paths each world is as one before them was.
use Rattle.std.specs.Prelude.{◌≡◌, ℕ, List, Option}
use Rattle.disk_model.specs.Files.{Files}
use Rattle.disk_model.specs.Worlds.{World, has_draft}
use Rattle.disk_model.specs.Told.{IsWorldOf, InEachWorld, Leaves}
use Rattle.disk_model.specs.Moments.{AddsOnly}

-- two worlds have the same settled file at a place, or both none, and a draft both or neither
pub record IsAlikeAt (vol : ℕ) (path : List ℕ) (was now : World) : Type 0 where
  pub settled : now.settled vol path ≡ was.settled vol path
  pub draft : has_draft now vol path ≡ has_draft was vol path

-- so they are at each of these paths, on every volume
abbrev pub AreAlike : (Kept : List ℕ → Type 0) → (was now : World) → Type 0
AreAlike Kept was now = (vol : ℕ) (path : List ℕ) → Kept path → IsAlikeAt vol path was now

-- the world is like one of these at each of these paths
abbrev pub ComesAlike : (Kept : List ℕ → Type 0) → Option (List World) → World → Type 0
ComesAlike Kept old now = (was : World) × IsWorldOf old was × AreAlike Kept was now

-- such a world can leave the image
abbrev pub LeftAlike : (Kept : List ℕ → Type 0) → Option (List World) → Files → Type 0
LeftAlike Kept old image = (now : World) × ComesAlike Kept old now × Leaves now image

-- Calls leave what stands at these paths alone: each world after them is like one before them there, and so is one that can
-- leave each image that a crash could leave meanwhile.
pub record LeavesAlone (Kept : List ℕ → Type 0) (old new : Option (List World)) (past since : ℕ → Files → Type 0) : Type 0 where
  pub worlds : InEachWorld new (ComesAlike Kept old)
  pub images : AddsOnly past since (LeftAlike Kept old)

-- the image has the files of the other one at each of these paths
abbrev pub KeepsFiles : (Kept : List ℕ → Type 0) → (start image : Files) → Type 0
KeepsFiles Kept start image = (vol : ℕ) (path : List ℕ) → Kept path → image vol path ≡ start vol path
