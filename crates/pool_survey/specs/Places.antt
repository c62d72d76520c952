-- What was found of a block on the volumes of a pool.
use Rattle.std.specs.Prelude.{◌≡◌, ℕ, ◌<◌, ◌≤◌, ◌-◌, ◌==◌, ◌++◌, if◌then◌else◌, List, [], ◌∷◌, length, get_or, All, AllPairs, Option, None, Some, codes}
use Rattle.std.specs.Global.{Vec}
use Rattle.std.specs.Ordering.{nat_cmp}
use Rattle.std.specs.BTreeMap.{BTreeMap, get}
use Rattle.volume_layout.specs.Paths.{IsBlockId}
use Rattle.disk_model.specs.Worlds.{World, IsListing}
use Rattle.pool_survey.specs.declared.found.FoundFiles.{FoundFiles}
use Rattle.pool_survey.specs.declared.places.FoundOn.{FoundOn}
use Rattle.pool_survey.specs.declared.surveying_pool.PoolSurvey.{PoolSurvey}
use Rattle.pool_survey.specs.Regions.{AreFiles}
use Rattle.pool_survey.specs.Exact.{IsExact}

-- what was found of a block on a volume, among these places
abbrev pub found_on : List FoundOn → ℕ → Option FoundFiles
found_on [] vol = None
found_on (on ∷ places) vol = if on.vol == vol then Some on.files else found_on places vol

-- the items of a vector, if there is one
abbrev pub items_or_none : Option (Vec FoundOn) → List FoundOn
items_or_none None = []
items_or_none (Some places) = places.items

-- the places at which something of a block was found
abbrev pub places_of : BTreeMap ℕ (Vec FoundOn) → ℕ → List FoundOn
places_of blocks id = items_or_none (get nat_cmp blocks id)

-- these places, and behind them the volume if something was found there
abbrev pub with_found : ℕ → List FoundOn → Option FoundFiles → List FoundOn
with_found vol places None = places
with_found vol places (Some files) = places ++ record { vol = vol; files = files } ∷ []

-- the places of one block: on volumes of the pool, which rise, with the stamps of metas, each once
pub record ArePlaces (volumes : ℕ) (places : List FoundOn) : Type 0 where
  pub rise : AllPairs (λ (on other : FoundOn). on.vol < other.vol) places
  pub on_volumes : All (λ (on : FoundOn). (1 ≤ on.vol) × (on.vol ≤ volumes)) places
  pub files : All (λ (on : FoundOn). AreFiles (Some on.files)) places

-- the numbers by which they stand are block ids
abbrev pub HaveBlockIds : BTreeMap ℕ (Vec FoundOn) → Type 0
HaveBlockIds blocks = (id : ℕ) (places : Vec FoundOn) → get nat_cmp blocks id ≡ Some places → IsBlockId id

-- these are blocks, with their places
pub record ArePoolBlocks (volumes : ℕ) (blocks : BTreeMap ℕ (Vec FoundOn)) : Type 0 where
  pub ids : (id : ℕ) (places : Vec FoundOn) → get nat_cmp blocks id ≡ Some places → IsBlockId id
  pub places : (id : ℕ) → ArePlaces volumes (places_of blocks id)

-- the survey of a pool's volumes in this world
pub record IsPoolSurveyOf (world : World) (volumes : ℕ) (survey : PoolSurvey) : Type 0 where
  pub blocks : (id : ℕ) → IsBlockId id → (vol : ℕ) → 1 ≤ vol → vol ≤ volumes
      → IsExact world vol id (found_on (places_of survey.blocks id) vol)
  pub counted : length survey.temporary.items ≡ volumes
  pub temporary : (vol : ℕ) → 1 ≤ vol → vol ≤ volumes → IsListing world vol (codes "tmp") (get_or survey.temporary.items (vol - 1) [])
