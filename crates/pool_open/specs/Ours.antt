-- Which places may be cleared.
use Rattle.std.specs.Prelude.{List, All}
use Rattle.volume_layout.specs.Foreign.{IsForeign}
use Rattle.pool_open.specs.Plan.{Place}

-- what stands there is a block's, or stands under `tmp`
abbrev pub IsOurs : Place → Type 0
IsOurs place = IsForeign place.1 → ⊥

abbrev pub AreOurs : List Place → Type 0
AreOurs places = All IsOurs places
