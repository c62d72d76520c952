-- What stands at a place.
use Rattle.std.specs.Prelude.{ℕ, List, Some, IsTrue}
use Rattle.mem_disks.specs.declared.standing.Standing.{Standing}
use Rattle.mem_disks.specs.declared.standing.Standing.TheVariants.{Absent, Draft, File}
use Rattle.disk_model.specs.Worlds.{World, Holds, IsAbsent, has_draft}

-- what stands at a place
abbrev pub StandsAs : World → ℕ → List ℕ → Standing → Type 0
StandsAs world vol path Absent = IsAbsent world vol path
StandsAs world vol path Draft = IsTrue (has_draft world vol path)
StandsAs world vol path (File bytes) = Holds vol path (Some bytes.now) world
