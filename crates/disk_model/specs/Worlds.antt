-- What a disk may hold, and what each call of names does with it.
use Rattle.std.specs.Prelude.{◌≡◌, ◌≢◌, ℕ, ◌<◌, ◌⊎◌, Bool, not, List, [], ◌∷◌, length, filter, All, Contains, IsTrue, IsFalse, Option, None, Some}
use Rattle.std.specs.List.{list_any}
use Rattle.disk_model.specs.Names.{IsInOrder}
use Rattle.disk_model.specs.Files.{Files, is_place, with_content, path_in}

-- where a draft stands, under its number
pub record DraftPlace : Type 0 where
  pub number : ℕ
  pub vol : ℕ
  pub path : List ℕ

-- a draft of this number at this place
abbrev pub draft_at : ℕ → ℕ → List ℕ → DraftPlace
draft_at number vol path = record { number = number; vol = vol; path = path }

-- the settled files, and the drafts
pub record World : Type 0 where
  pub settled : Files
  pub drafts : List DraftPlace

-- the draft stands at this place
abbrev pub stands_at : ℕ → List ℕ → DraftPlace → Bool
stands_at vol path draft = is_place draft.vol draft.path vol path

-- some draft stands at this place
abbrev pub has_draft : World → ℕ → List ℕ → Bool
has_draft world vol path = list_any (stands_at vol path) world.drafts

-- the drafts but for those at this place
abbrev pub drafts_without : World → ℕ → List ℕ → List DraftPlace
drafts_without world vol path = filter (λ draft. not (stands_at vol path draft)) world.drafts

-- a draft is made, in the place of a settled file
abbrev pub created : DraftPlace → World → World
created draft world = record { settled = with_content world.settled draft.vol draft.path None; drafts = draft ∷ world.drafts }

-- whatever stands at the place is taken away
abbrev pub removed : ℕ → List ℕ → World → World
removed vol path world = record { settled = with_content world.settled vol path None; drafts = drafts_without world vol path }

-- the bytes are settled at the place, in the place of a file or a draft there
abbrev pub settled_at : ℕ → List ℕ → List ℕ → World → World
settled_at vol path bytes world = record { settled = with_content world.settled vol path (Some bytes); drafts = drafts_without world vol path }

-- a sealed draft is taken away, and its bytes are settled at the target on its volume
abbrev pub published : DraftPlace → List ℕ → List ℕ → World → World
published draft bytes target world = settled_at draft.vol target bytes (removed draft.vol draft.path world)

-- no place has both a settled file and a draft, and the numbers of the drafts were given before this one
pub record IsWorld (next_number : ℕ) (world : World) : Type 0 where
  pub apart : (vol : ℕ) (path : List ℕ) → IsTrue (has_draft world vol path) → world.settled vol path ≡ None
  pub numbered : All (λ draft. draft.number < next_number) world.drafts

-- the number stands at its place
abbrev pub HasDraft : World → DraftPlace → Type 0
HasDraft world draft = Contains world.drafts draft

-- the place has this content and no draft
pub record Holds (vol : ℕ) (path : List ℕ) (content : Option (List ℕ)) (world : World) : Type 0 where
  pub file : world.settled vol path ≡ content
  pub no_draft : IsFalse (has_draft world vol path)

-- nothing stands at the place
abbrev pub IsAbsent : World → ℕ → List ℕ → Type 0
IsAbsent world vol path = Holds vol path None world

-- a file of this length stands at the place, or a draft, of which no length is known
abbrev pub HasSize : World → ℕ → List ℕ → ℕ → Type 0
HasSize world vol path size = ((bytes : List ℕ) × (world.settled vol path ≡ Some bytes) × (length bytes ≡ size)) ⊎ IsTrue (has_draft world vol path)

-- a name that isn't empty and has no slash
pub record IsFileName (name : List ℕ) : Type 0 where
  pub not_empty : name ≢ []
  pub no_slash : All (λ byte. byte ≢ 47) name

-- a file or a draft stands under this name in the directory
pub record IsPresent (world : World) (vol : ℕ) (dir name : List ℕ) : Type 0 where
  pub is_name : IsFileName name
  pub stands : IsAbsent world vol (path_in dir name) → ⊥

-- the names are those of the files and drafts of a directory, sorted by bytes, each once
pub record IsListing (world : World) (vol : ℕ) (dir : List ℕ) (names : List (List ℕ)) : Type 0 where
  pub sorted : IsInOrder names
  pub only : All (λ name. IsPresent world vol dir name) names
  pub all : (name : List ℕ) → IsPresent world vol dir name → Contains names name
