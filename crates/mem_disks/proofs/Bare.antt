-- Disks without drafts.
use Rattle.std.proofs.Common.{◌≡◌, ℕ, List, [], Option, ap}
use Rattle.std.specs.List.{list_any}
use Rattle.disk_model.specs.Worlds.{DraftPlace, World, stands_at, settled_at}
use Rattle.disk_model.specs.Told.{InEachWorld, NoDraftAt, PicksOne}
use Rattle.disk_model.proofs.Laws.{each_after_done}
use Rattle.mem_disks.proofs.Remains.{no_drafts}

-- a file that is settled makes no draft
pub bare_settled : (vol : ℕ) (path bytes : List ℕ) (old new : Option (List World)) → PicksOne (λ world. Unit {0}) (settled_at vol path bytes) old new
    → InEachWorld old (λ world. world.drafts ≡ []) → InEachWorld new (λ world. world.drafts ≡ [])
bare_settled vol path bytes old new picks bare =
    each_after_done (λ world. world.drafts ≡ []) (λ world. world.drafts ≡ []) picks bare (λ world is answer none. no_drafts vol path world.drafts none)

-- every path is free
pub free_where_bare : (told : Option (List World)) (vol : ℕ) (path : List ℕ) → InEachWorld told (λ world. world.drafts ≡ []) → NoDraftAt told vol path
free_where_bare told vol path bare world is = ap (λ (drafts : List DraftPlace). list_any (stands_at vol path) drafts) (bare world is)
