-- The metas that don't count: beside a block file, those that are removed before anything else.
use Rattle.std.specs.Prelude.{ℕ, ◌≡◌, Bool, if◌then◌else◌, max, nat_lt, List, [], ◌∷◌, ◌++◌, filter, map, Option, None, Some}
use Rattle.std.specs.List.{flat_map}
use Rattle.std.specs.BTreeMap.{BTreeMap}
use Rattle.std.specs.declared.vec.Vec.{Vec}
use Rattle.std.specs.declared.alloc.Global.{Global}
use Rattle.volume_layout.specs.Paths.{meta_path}
use Rattle.pool_survey.specs.declared.found.FoundFiles.{FoundFiles}
use Rattle.pool_survey.specs.declared.places.FoundOn.{FoundOn}
use Rattle.pool_survey.specs.Places.{places_of}
use Rattle.pool_survey.specs.Regions.{AreFiles}
use Rattle.pool_open.specs.Plan.{Place}

-- ---- which of several metas counts

-- the greatest of these stamps, or 0
abbrev pub greatest : List ℕ → ℕ
greatest [] = 0
greatest (stamp ∷ stamps) = max stamp (greatest stamps)

-- those below this one, and those above it
abbrev pub below : ℕ → List ℕ → List ℕ
below stamp stamps = filter (λ other. nat_lt other stamp) stamps

abbrev pub above : ℕ → List ℕ → List ℕ
above stamp stamps = filter (λ other. nat_lt stamp other) stamps

-- the greatest of them, where there are some, else this one
abbrev pub greatest_or : ℕ → List ℕ → ℕ
greatest_or least [] = least
greatest_or least (stamp ∷ stamps) = greatest (stamp ∷ stamps)

-- the greatest but one, or the only one
abbrev pub second : List ℕ → ℕ
second stamps = greatest_or (greatest stamps) (below (greatest stamps) stamps)

-- The gate: the greatest counts; but where it is gated and two or more stand, the one below it.
abbrev pub kept_stamp : (gated : Bool) → List ℕ → Option ℕ
kept_stamp gated [] = None
kept_stamp gated (stamp ∷ stamps) = Some (if gated then second (stamp ∷ stamps) else greatest (stamp ∷ stamps))

-- the stamps that were found on a volume, each once
abbrev pub HasFiles : FoundOn → Type 0
HasFiles on = AreFiles (Some on.files)

-- the stamp that counts beside a block file; the gate is the one under `current/rbw`
abbrev pub counted : FoundFiles → Option ℕ
counted files = if files.block then kept_stamp files.writing files.metas.items else None

-- ---- the others go

-- the stamps that don't count: the smaller ones, then the greater ones
abbrev pub surplus_stamps : (kept : Option ℕ) → List ℕ → List ℕ
surplus_stamps None stamps = []
surplus_stamps (Some kept) stamps = below kept stamps ++ above kept stamps

-- the metas with these stamps on a volume
abbrev pub metas_at : (vol id : ℕ) → List ℕ → List Place
metas_at vol id stamps = map (λ stamp. (vol, meta_path id stamp)) stamps

-- the metas that don't count of a block on a volume, on all volumes, and of all blocks
abbrev pub surplus_on : ℕ → FoundOn → List Place
surplus_on id on = metas_at on.vol id (surplus_stamps (counted on.files) on.files.metas.items)

abbrev pub surplus_of : ℕ × Vec FoundOn Global → List Place
surplus_of entry = flat_map (surplus_on entry.0) entry.1.items

abbrev pub surplus_places : List (ℕ × Vec FoundOn Global) → List Place
surplus_places blocks = flat_map surplus_of blocks

-- ---- what is left of what was found

abbrev pub left_stamps : (kept : Option ℕ) → List ℕ → List ℕ
left_stamps None stamps = stamps
left_stamps (Some kept) stamps = kept ∷ []

-- what was found of a block on a volume, without the metas that don't count
pub record IsBroughtDown (was now : FoundOn) : Type 0 where
  pub vol : now.vol ≡ was.vol
  pub block : now.files.block ≡ was.files.block
  pub metas : now.files.metas.items ≡ left_stamps (counted was.files) was.files.metas.items
  pub writing : now.files.writing ≡ was.files.writing
  pub writing_metas : now.files.writing_metas.items ≡ was.files.writing_metas.items

-- on all volumes
abbrev pub AreBroughtDown : (was now : List FoundOn) → Type 0
AreBroughtDown [] now = now ≡ []
AreBroughtDown (on ∷ was) [] = ⊥
AreBroughtDown (on ∷ was) (left ∷ now) = IsBroughtDown on left × AreBroughtDown was now

-- and of all blocks
abbrev pub IsTableBroughtDown : (was now : BTreeMap ℕ (Vec FoundOn Global)) → Type 0
IsTableBroughtDown was now = (id : ℕ) → AreBroughtDown (places_of was id) (places_of now id)
