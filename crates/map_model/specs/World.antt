-- What the cells need to know of a disk's worlds, beside the disk's own words.
use Rattle.std.specs.Prelude.{ℕ, ◌≡◌, false, IsFalse, List, [], ◌∷◌, Option, Some, None, if◌then◌else◌}
use Rattle.volume_layout.specs.Aside.{is_aside}
use Rattle.disk_model.specs.Worlds.{DraftPlace, World, stands_at, has_draft}

-- the number of the draft at a place
abbrev pub draft_number : List DraftPlace → ℕ → List ℕ → Option ℕ
draft_number [] vol path = None
draft_number (draft ∷ drafts) vol path = if stands_at vol path draft then Some draft.number else draft_number drafts vol path

-- every draft stands under `tmp` or `current/rbw`
abbrev pub DraftsAside : World → Type 0
DraftsAside world = (vol : ℕ) (path : List ℕ) → is_aside path ≡ false → IsFalse (has_draft world vol path)
