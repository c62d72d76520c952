-- The content of a disk that tells it: a list of worlds, one of which is the true one.
use Rattle.std.specs.Prelude.{◌≡◌, ◌≢◌, ℕ, ◌≤◌, ◌↔◌, ◌⊎◌, List, [], ◌∷◌, Contains, IsSome, IsTrue, IsFalse, Option, Some, unwrap_or}
use Rattle.disk_model.specs.Files.{Files}
use Rattle.disk_model.specs.Worlds.{DraftPlace, World, IsWorld, IsAbsent, has_draft, HasDraft}

-- one of the worlds that the disk tells
abbrev pub IsWorldOf : Option (List World) → World → Type 0
IsWorldOf told world = (worlds : List World) × (told ≡ Some worlds) × Contains worlds world

-- a fact of each world that the disk tells
abbrev pub InEachWorld : Option (List World) → (World → Type 0) → Type 0
InEachWorld told P = (world : World) → IsWorldOf told world → P world

-- what a disk tells is a list of worlds that isn't empty
pub record IsDisk (next_number : ℕ) (told : Option (List World)) : Type 0 where
  pub some : told ≢ Some []
  pub worlds : InEachWorld told (IsWorld next_number)

-- files and drafts stand only on the volumes 1 to this number
abbrev pub StandsWithin : ℕ → Option (List World) → Type 0
StandsWithin volumes told = InEachWorld told (λ world. (vol : ℕ) (path : List ℕ) → (IsAbsent world vol path → ⊥) → (1 ≤ vol) × (vol ≤ volumes))

-- one world without drafts, as an image that is opened has it
abbrev pub IsFresh : Option (List World) → Type 0
IsFresh told = (files : Files) × (told ≡ Some (record { settled = files; drafts = [] } ∷ []))

-- A world can leave an image: each draft's path is there with any bytes, and elsewhere are the settled files.
pub record Leaves (world : World) (image : Files) : Type 0 where
  pub drafts : (vol : ℕ) (path : List ℕ) → IsTrue (has_draft world vol path) → IsSome (image vol path)
  pub settled : (vol : ℕ) (path : List ℕ) → IsFalse (has_draft world vol path) → image vol path ≡ world.settled vol path

-- some world of the disk can leave the image
abbrev pub CanLeave : Option (List World) → Files → Type 0
CanLeave told image = (world : World) × IsWorldOf told world × Leaves world image

-- A call was done: it picks one world, which has the answer, and leaves that one alone, changed by the call.
pub record PicksOne (HasAnswer : World → Type 0) (change : World → World) (old new : Option (List World)) : Type 0 where
  pub honest : IsSome old ↔ IsSome new
  pub picked : (worlds : List World) → old ≡ Some worlds
      → (world : World) × Contains worlds world × HasAnswer world × (new ≡ Some (change world ∷ []))

-- Whatever a call answers: each world is one from before it, or one of these changed by the call.
pub record StandsBeforeOrAfter (change : World → World) (old new : Option (List World)) : Type 0 where
  pub honest : IsSome old ↔ IsSome new
  pub each : (world : World) → IsWorldOf new world
      → (was : World) × IsWorldOf old was × ((world ≡ was) ⊎ (world ≡ change was))

-- no draft stands at the place in any world
abbrev pub NoDraftAt : Option (List World) → ℕ → List ℕ → Type 0
NoDraftAt told vol path = InEachWorld told (λ world. IsFalse (has_draft world vol path))

-- the draft's number stands at its place in every world
abbrev pub StillStands : Option (List World) → DraftPlace → Type 0
StillStands told draft = InEachWorld told (λ world. HasDraft world draft)

-- the bytes that a sealed draft tells
abbrev pub told_bytes : Option (List ℕ) → List ℕ
told_bytes told = unwrap_or told []
