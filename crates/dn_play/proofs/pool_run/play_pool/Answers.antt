use Rattle.std.proofs.Common.{inl, inr, length, ap, ◌∙◌, refl, sym, subst, Err, option_map}
use Rattle.pair_draft.specs.Writers.{writer_of}
use Rattle.pool_open.specs.Outcome.{fault_disks}
use Rattle.line_io.proofs.Appending.{appends_nothing}
use Rattle.pool_state.specs.Books.{block_books}
use Rattle.pool_state.specs.Rooms.{choosing_of}
use Rattle.run_session.proofs.Opened.{first_of, stands_first, books_opened}
use Rattle.dn_play.proofs.Opening.{stops_so, runs_so}
use Rattle.pool_state.specs.Foreign.{LeavesForeign}
use Rattle.pool_state.proofs.Foreign.{foreign_then}
use Rattle.dn_play.proofs.pool_run.play_pool.Goals as goal

pub returns-in-Err-Failed-clause-runs : goal.returns-in-Err-Failed-clause-runs
returns-in-Err-Failed-clause-runs g c =
    let o = c.in-Err-Failed in
    stops_so g.D.PoolDisks _ _ (g.met.D.PoolDisks.only_now c.args.disks) _ o.disks o.field-0 _ _ _ _ o.disks-is (ap fault_disks o.field-0-is) o.ensures.goes_on (inr refl) (appends_nothing _)
    (λ e. o.ensures.failed o.disks (ap Err o.field-0-is)) o.ensures.images

pub returns-in-Err-Memory-clause-runs : goal.returns-in-Err-Memory-clause-runs
returns-in-Err-Memory-clause-runs g c =
    let o = c.in-Err-Memory in
    stops_so g.D.PoolDisks _ _ (g.met.D.PoolDisks.only_now c.args.disks) _ o.disks o.field-0 _ _ _ _ o.disks-is (ap fault_disks o.field-0-is) o.ensures.goes_on (inl refl) (appends_nothing _) (λ e. absurd (cc e)) o.ensures.images

pub play_lines-ending-requires : goal.play_lines-ending-requires
play_lines-ending-requires g c = record { stands = (first_of c.in-Ok.ensures.opened.cells c.in-Ok.ensures.opened.metas (block_books c.in-Ok.pool.map) (choosing_of c.in-Ok.pool), stands_first _ c.in-Ok.ensures.opened (λ id. ap (option_map (writer_of g.D.Draft.Draft.place g.D.Draft.Draft.bytes)) (c.new.ensures id))) }

pub returns-clause-runs : goal.returns-clause-runs
returns-clause-runs g c =
    let opens = c.in-Ok.ensures.opened in
    let standing = stands_first _ opens (λ id. ap (option_map (writer_of g.D.Draft.Draft.place g.D.Draft.Draft.bytes)) (c.new.ensures id)) in
    runs_so g.D.PoolDisks _ _ (g.met.D.PoolDisks.only_now c.args.disks) c.in-Ok.pool.disks _ _ (choosing_of c.in-Ok.pool) c.args.shares.items c.in-Ok.ensures.choosing _ _ _ _ c.close_pool.ensures c.in-Ok.ensures.goes_on opens
    (λ id valid. books_opened (length c.args.shares.items) (c.in-Ok.ensures.goes_on.volume_count ∙ sym c.requires.shares) (λ other. refl) opens.stands id valid (opens.opened id valid))
    (c.play_lines-ending.ensures.played (first_of opens.cells opens.metas (block_books c.in-Ok.pool.map) (choosing_of c.in-Ok.pool)) standing)
    c.play_lines-ending.ensures.of_lines c.in-Ok.ensures.images

pub returns-in-Err-Failed-clause-foreign : goal.returns-in-Err-Failed-clause-foreign
returns-in-Err-Failed-clause-foreign g c = subst (λ d. LeavesForeign g.D.PoolDisks c.args.disks d) (ap fault_disks c.in-Err-Failed.field-0-is ∙ sym c.in-Err-Failed.disks-is) c.in-Err-Failed.ensures.foreign

pub returns-in-Err-Memory-clause-foreign : goal.returns-in-Err-Memory-clause-foreign
returns-in-Err-Memory-clause-foreign g c = subst (λ d. LeavesForeign g.D.PoolDisks c.args.disks d) (ap fault_disks c.in-Err-Memory.field-0-is ∙ sym c.in-Err-Memory.disks-is) c.in-Err-Memory.ensures.foreign

pub returns-clause-foreign : goal.returns-clause-foreign
returns-clause-foreign g c = subst (λ d. LeavesForeign g.D.PoolDisks c.args.disks d) (sym c.close_pool.ensures)
    (foreign_then c.in-Ok.ensures.foreign c.play_lines-ending.ensures.foreign)
