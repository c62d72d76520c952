-- What disks in memory hold after the calls of names that were recorded, and what a crash could have left of them.
use Rattle.std.specs.Prelude.{◌≡◌, ℕ, ◌+◌, ◌*◌, ◌≤◌, ◌⊎◌, Bool, true, false, List, [], ◌∷◌, ◌++◌, length, take, fold, string_bytes, Option, Some}
use Rattle.mem_disks.specs.declared.history.Change.{Change}
use Rattle.mem_disks.specs.declared.history.Change.TheVariants.{Created, Published, Removed, Put}
use Rattle.mem_disks.specs.declared.history.Recorded.{Recorded}
use Rattle.disk_model.specs.Files.{Files, no_files, is_place}
use Rattle.disk_model.specs.Worlds.{World, draft_at, created, removed, settled_at, published}
use Rattle.disk_model.specs.Told.{Leaves}

-- no files and no drafts
abbrev pub empty_world : World
empty_world = record { settled = no_files; drafts = [] }

-- what a change does with a world
abbrev pub changed : World → Change → World
changed world (Created number vol path) = created (draft_at number vol (string_bytes path)) world
changed world (Published vol path bytes target) = published (draft_at 0 vol (string_bytes path)) bytes.items (string_bytes target) world
changed world (Removed vol path) = removed vol (string_bytes path) world
changed world (Put vol path bytes) = settled_at vol (string_bytes path) bytes.items world

-- the world in which only the calls that were done stand, and the one in which the last call recorded stands too
pub record Fork : Type 0 where
  pub now : World
  pub tried : World

-- the first world where the call was done, else the second
abbrev pub if_done : Bool → World → World → World
if_done true after before = after
if_done false after before = before

-- one more call
abbrev pub step : Fork → Recorded → Fork
step fork recorded = record { now = if_done recorded.done (changed fork.now recorded.change) fork.now; tried = changed fork.now recorded.change }

-- the worlds after the calls
abbrev pub fork_after : List Recorded → Fork
fork_after records = fold step (record { now = empty_world; tried = empty_world }) records

-- both worlds while the last call is open, else the first
abbrev pub worlds_of : Bool → Fork → List World
worlds_of true fork = fork.now ∷ fork.tried ∷ []
worlds_of false fork = fork.now ∷ []

-- what the disks tell
abbrev pub told : Bool → List Recorded → List World
told pending records = worlds_of pending (fork_after records)

-- the moment: each call recorded has one while it is open and one from then on
abbrev pub moment_of : Bool → ℕ → ℕ
moment_of true count = 2 * count
moment_of false count = 2 * count + 1

-- a crash from moment t on could have left the image, after so many calls
abbrev pub LeftBy : Fork → ℕ → ℕ → Files → Type 0
LeftBy fork count t image = ((t ≤ 2 * count + 1) × Leaves fork.now image) ⊎ ((t ≤ 2 * count) × Leaves fork.tried image)

-- after some first calls, a crash from moment t on could have left the image
pub record LeftSince (records : List Recorded) (t : ℕ) (image : Files) : Type 0 where
  pub count : ℕ
  pub within : count ≤ length records
  pub left : LeftBy (fork_after (take count records)) count t image

-- the numbers that a change used up end here
abbrev pub numbers_end : Change → ℕ
numbers_end (Created number vol path) = number + 1
numbers_end (Published vol path bytes target) = 0
numbers_end (Removed vol path) = 0
numbers_end (Put vol path bytes) = 0

-- the volume of a change
abbrev pub volume_of : Change → ℕ
volume_of (Created number vol path) = vol
volume_of (Published vol path bytes target) = vol
volume_of (Removed vol path) = vol
volume_of (Put vol path bytes) = vol

-- the change is on one of this many volumes
abbrev pub IsOnVolume : ℕ → Change → Type 0
IsOnVolume count change = (1 ≤ volume_of change) × (volume_of change ≤ count)

-- the change puts a file or a draft at this place
abbrev pub makes : ℕ → List ℕ → Change → Bool
makes vol path (Created number v p) = is_place v (string_bytes p) vol path
makes vol path (Published v p bytes target) = is_place v (string_bytes target) vol path
makes vol path (Removed v p) = false
makes vol path (Put v p bytes) = is_place v (string_bytes p) vol path

-- one call was recorded, done or failed, which does this with each world
pub record Records (done : Bool) (change : World → World) (old new : List Recorded) : Type 0 where
  pub one : Recorded
  pub items : new ≡ old ++ one ∷ []
  pub is_done : one.done ≡ done
  pub does : (world : World) → changed world one.change ≡ change world

-- nothing was recorded, and no number was given
pub record Stays (old new : List Recorded) (was is : Bool) (before now : ℕ) : Type 0 where
  pub records : new ≡ old
  pub pending : is ≡ was
  pub number : now ≡ before

-- a call that failed was recorded, which would do this with each world, and it is open
pub record Opens (change : World → World) (old new : List Recorded) (is : Bool) (now next : ℕ) : Type 0 where
  pub records : Records false change old new
  pub pending : is ≡ true
  pub number : now ≡ next

-- the first world that is told has this content of a file at the place, where nothing open was done
abbrev pub HoldsFirst : Option (List World) → ℕ → List ℕ → Option (List ℕ) → Type 0
HoldsFirst told vol path content = (world : World) (others : List World) → told ≡ Some (world ∷ others) → world.settled vol path ≡ content
