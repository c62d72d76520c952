use Rattle.std.proofs.Common.{◌-◌, sym, ◌∙◌, ap}
use Rattle.mem_disks.specs.Shelves.{held}
use Rattle.mem_disks.proofs.Listings.{listing, if_ok}
use Rattle.mem_disks.proofs.store.Store.names.Goals as goal

pub returns : goal.returns
returns c =
    if_ok c.names_of.result _ _
    (listing c.args.self.now.volume_count c.args.self.now.records.items c.args.self.now.shelves.items c.args.vol c.args.dir.now c.shelf_of.result.now c.requires.low c.requires.high
    c.args.self.now.drafts c.args.self.now.files
    (λ path. ap (λ shelves. held shelves (c.args.vol - 1) path) (sym c.deref.ensures.value) ∙ c.shelf_of.ensures path)) c.names_of.ensures
