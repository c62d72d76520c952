-- A file that is put leaves the drafts aside.
use Rattle.std.proofs.Common.{ℕ, List, Option}
use Rattle.disk_model.specs.Worlds.{World, settled_at}
use Rattle.disk_model.specs.Told.{PicksOne, InEachWorld}
use Rattle.disk_model.proofs.Laws.{each_after_done}
use Rattle.map_model.specs.World.{DraftsAside}
use Rattle.map_model.proofs.Aside.{aside_settled}

pub put_aside : (vol : ℕ) (path bytes : List ℕ) (old new : Option (List World)) → PicksOne (λ world. Unit {0}) (settled_at vol path bytes) old new →
    InEachWorld old DraftsAside → InEachWorld new DraftsAside
put_aside vol path bytes old new picks aside = each_after_done DraftsAside DraftsAside picks aside (λ world is answer has. aside_settled vol path bytes world has)
