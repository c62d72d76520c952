-- Calls that only look.
use Rattle.std.specs.Prelude.{List, Option}
use Rattle.disk_model.specs.Worlds.{World}
use Rattle.disk_model.specs.Told.{IsWorldOf, InEachWorld}

-- each world is one of those before
abbrev pub Remains : (old new : Option (List World)) → Type 0
Remains old new = InEachWorld new (IsWorldOf old)
