-- What a crash leaves of disks, and the disks that are opened on it.
use Rattle.std.specs.Prelude.{◌≡◌, ℕ, ◌⊎◌, Bool, true, false, List, [], ◌∷◌, None, Some, if◌then◌else◌}
use Rattle.disk_model.specs.Files.{Files}
use Rattle.disk_model.specs.Worlds.{World, has_draft}
use Rattle.mem_disks.specs.History.{Fork}

-- what a crash leaves of a world: these bytes at the path of each draft, and elsewhere the settled files
abbrev pub left_of : World → List ℕ → Files
left_of world bytes vol path = if has_draft world vol path then Some bytes else world.settled vol path

-- one world, with these files and without drafts
abbrev pub only_files : Files → List World
only_files files = record { settled = files; drafts = [] } ∷ []

-- of the worlds that are told, the one where the first open call was done, if one is open, else the first
abbrev pub counted : Bool → World → List World → World
counted false world others = world
counted true world [] = world
counted true world (tried ∷ others) = tried

-- the world where the last call was done while it is open, else the one where no open call was
abbrev pub counted_done : Bool → Fork → World
counted_done true fork = fork.tried
counted_done false fork = fork.now

-- the image is what a crash leaves of the world
pub record IsImageOf (world : World) (bytes : List ℕ) (image : World) : Type 0 where
  pub drafts : image.drafts ≡ []
  pub files : (vol : ℕ) (path : List ℕ) → image.settled vol path ≡ left_of world bytes vol path

-- the image has no drafts, some of the files, and all of those at the places that were seen
pub record TakesOver (files : Files) (Seen : ℕ → List ℕ → Type 0) (image : World) : Type 0 where
  pub drafts : image.drafts ≡ []
  pub some : (vol : ℕ) (path : List ℕ) → (image.settled vol path ≡ files vol path) ⊎ (image.settled vol path ≡ None)
  pub seen : (vol : ℕ) (path : List ℕ) → Seen vol path → image.settled vol path ≡ files vol path
