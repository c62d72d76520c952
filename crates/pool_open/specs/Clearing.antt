-- Removing what stands at some places.
use Rattle.std.specs.Prelude.{ℕ, ◌≡◌, ◌⊎◌, ◌≤◌, List, [], ◌∷◌, take, All, Contains, Option}
use Rattle.disk_model.specs.Files.{Files}
use Rattle.disk_model.specs.Worlds.{World, removed}
use Rattle.disk_model.specs.Told.{IsWorldOf, Leaves}
use Rattle.map_model.specs.World.{DraftsAside}
use Rattle.map_model.specs.Slots.{Slot, empty, slot_at}
use Rattle.pool_open.specs.Plan.{Place}

-- these places are on volumes of the pool
abbrev pub IsOnVolumes : ℕ → Place → Type 0
IsOnVolumes volumes place = (1 ≤ place.0) × (place.0 ≤ volumes)

abbrev pub AreOnVolumes : ℕ → List Place → Type 0
AreOnVolumes volumes places = All (IsOnVolumes volumes) places

-- a place is as it was, or it was cleared
abbrev pub IsKeptOrCleared : List Place → Place → (was now : Slot) → Type 0
IsKeptOrCleared places place was now = (now ≡ was) ⊎ ((now ≡ empty) × Contains places place)

-- no place changed, but that some of these were cleared
pub record Clears (places : List Place) (was now : World) : Type 0 where
  pub each : (vol : ℕ) (path : List ℕ) → IsKeptOrCleared places (vol, path) (slot_at was vol path) (slot_at now vol path)
  pub aside : DraftsAside was → DraftsAside now

-- nothing stands at these
abbrev pub AreClear : List Place → World → Type 0
AreClear places world = (vol : ℕ) (path : List ℕ) → Contains places (vol, path) → slot_at world vol path ≡ empty

-- the world in which what stands at these places is removed, one after the other
abbrev pub cleared : List Place → World → World
cleared [] world = world
cleared (place ∷ places) world = cleared places (removed place.0 place.1 world)

-- the world comes from one of these, in which all places were cleared
abbrev pub ComesAllCleared : List Place → Option (List World) → World → Type 0
ComesAllCleared places old now = (was : World) × IsWorldOf old was × (now ≡ cleared places was)

-- or the first of them, in order
abbrev pub ComesInOrder : List Place → Option (List World) → World → Type 0
ComesInOrder places old now = (was : World) × IsWorldOf old was × (count : ℕ) × (now ≡ cleared (take count places) was)

-- and it can leave the image
abbrev pub LeftInOrder : List Place → Option (List World) → Files → Type 0
LeftInOrder places old image = (now : World) × ComesInOrder places old now × Leaves now image

-- the world comes from one of these, in which some of the places were cleared
abbrev pub ComesCleared : List Place → Option (List World) → World → Type 0
ComesCleared places old now = (was : World) × IsWorldOf old was × Clears places was now

-- and it can leave the image
abbrev pub LeftCleared : List Place → Option (List World) → Files → Type 0
LeftCleared places old image = (now : World) × ComesCleared places old now × Leaves now image
