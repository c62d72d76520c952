use Rattle.std.proofs.Common.{refl, sym, ◌∙◌, ap}
use Rattle.disk_model.proofs.GoingOn.{went_then}
use Rattle.replica_map.specs.Books.{grown_at}
use Rattle.pool_state.specs.Books.{entry_state, book_entry, left_at}
use Rattle.pool_state.proofs.Foreign.{foreign_then}
use Rattle.pool_state.proofs.Entries.{said_by}
use Rattle.pool_state.proofs.Showing.{begins, calls, rests}
use Rattle.pool_state.proofs.Lending.{stands_looked, looked_images, lend_free, lends, looked_for_two}
use Rattle.volume_layout.specs.declared.block_file.BlockFile.TheVariants.{Block, Meta}
use Rattle.pool_state.proofs.pool_record.Pool.start_read.Goals as goal

pub lend_file-requires-clause-settled : goal.lend_file-requires-clause-settled
lend_file-requires-clause-settled g c = lend_free c.requires.stands.1 c.args.id c.in-Some.entry.vol Block refl

pub returns-in_err-block-clause-quiet : goal.returns-in_err-block-clause-quiet
returns-in_err-block-clause-quiet g c cells stands = rests (λ known old.
    let new = stands_looked _ _ _ _ _ known cells old c.in_err-block.ensures.looked c.in_err-block.ensures.goes_on.volume_count in
    (new, calls _ (begins _ _) c.in_err-block.ensures.images (looked_images new))) stands

pub lend_file-requires-2-clause-settled : goal.lend_file-requires-2-clause-settled
lend_file-requires-2-clause-settled g c =
    lend_free (stands_looked _ _ _ _ _ _ _ c.requires.stands.1 c.in_ok-block.ensures.looked c.in_ok-block.ensures.goes_on.volume_count)
    c.args.id c.in-Some.entry.vol (Meta c.in-Some.entry.stamp) refl

pub returns-in_err-meta-clause-quiet : goal.returns-in_err-meta-clause-quiet
returns-in_err-meta-clause-quiet g c cells stands = rests (λ known old.
    let one = stands_looked _ _ _ _ _ known cells old c.in_ok-block.ensures.looked c.in_ok-block.ensures.goes_on.volume_count in
    let two = stands_looked _ _ _ _ _ known cells one c.in_err-meta.ensures.looked c.in_err-meta.ensures.goes_on.volume_count in
    (two, calls _ (calls _ (begins _ _) c.in_ok-block.ensures.images (looked_images one)) c.in_err-meta.ensures.images (looked_images two))) stands

pub returns-clause-quiet : goal.returns-clause-quiet
returns-clause-quiet g c cells stands = rests (λ known old.
    let one = stands_looked _ _ _ _ _ known cells old c.in_ok-block.ensures.looked c.in_ok-block.ensures.goes_on.volume_count in
    let two = stands_looked _ _ _ _ _ known cells one c.in_ok-meta.ensures.looked c.in_ok-meta.ensures.goes_on.volume_count in
    (two, calls _ (calls _ (begins _ _) c.in_ok-block.ensures.images (looked_images one)) c.in_ok-meta.ensures.images (looked_images two))) stands

pub returns-clause-lent : goal.returns-clause-lent
returns-clause-lent g c known cells stands =
    let map = c.args.self.now.map in
    lends stands (stands_looked _ _ _ _ _ known cells stands c.in_ok-block.ensures.looked c.in_ok-block.ensures.goes_on.volume_count)
    c.args.id c.find.ensures.valid (book_entry (grown_at map c.args.id) c.in-Some.entry) (left_at map c.args.id)
    (said_by map c.args.id (stands.fit c.args.id c.find.ensures.valid) c.in-Some.entry (sym c.find.ensures.value ∙ c.in-Some.is)) (ap (entry_state (grown_at map c.args.id)) c.in-Finalised.is) g.D.Reader.Reader.bytes c.in_ok-block.block c.in_ok-meta.meta
    c.in_ok-block.ensures.file c.in_ok-meta.ensures.file c.in_ok-meta.ensures.limit

pub returns-clause-looked : goal.returns-clause-looked
returns-clause-looked g c ok =
    let one = c.in_ok-block.ensures.goes_on in
    let two = c.in_ok-meta.ensures.goes_on in
    looked_for_two g.D.Reader.Reader.number _ _ _
    (record { faults = one.faults; absences = one.absences; next_number = one.next_number; moment = one.moment })
    (record { faults = two.faults; absences = two.absences; next_number = two.next_number; moment = two.moment })
    c.in_ok-block.block c.in_ok-meta.meta
    c.in_ok-block.ensures.absent c.in_ok-block.ensures.number c.in_ok-meta.ensures.absent c.in_ok-meta.ensures.number

pub returns-in_err-meta-clause-goes_on : goal.returns-in_err-meta-clause-goes_on
returns-in_err-meta-clause-goes_on g c = went_then g.D.PoolDisks _ _ _ c.in_ok-block.ensures.goes_on c.in_err-meta.ensures.goes_on

pub returns-clause-goes_on : goal.returns-clause-goes_on
returns-clause-goes_on g c = went_then g.D.PoolDisks _ _ _ c.in_ok-block.ensures.goes_on c.in_ok-meta.ensures.goes_on

pub returns-in_err-meta-clause-foreign : goal.returns-in_err-meta-clause-foreign
returns-in_err-meta-clause-foreign g c = foreign_then c.in_ok-block.ensures.foreign c.in_err-meta.ensures.foreign

pub returns-clause-foreign : goal.returns-clause-foreign
returns-clause-foreign g c = foreign_then c.in_ok-block.ensures.foreign c.in_ok-meta.ensures.foreign
