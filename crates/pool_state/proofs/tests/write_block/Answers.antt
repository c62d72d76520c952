use Rattle.std.proofs.Common.{◌≡◌, ◌-◌, ◌∙◌, sym, ap, false, None, [], option_map}
use Rattle.std.specs.Result.{is_err, is_ok}
use Rattle.map_model.specs.Cells.{growing}
use Rattle.map_model.specs.Sound.{nothing}
use Rattle.pair_draft.specs.Writers.{writer_of}
use Rattle.pool_state.specs.Books.{block_books}
use Rattle.pool_state.specs.Stands.{with_cell}
use Rattle.pool_state.proofs.AnyRoom.{any_room}
use Rattle.pool_state.proofs.Belonging.{stands_pushed, stands_sealed}
use Rattle.pool_state.proofs.EmptyDisks.{own_cell, at_ok, bare_cell}
use Rattle.pool_state.proofs.Pushing.{pushes}
use Rattle.pool_state.proofs.tests.write_block.Goals as goal

pub returns-in_err-writer : goal.returns-in_err-writer
returns-in_err-writer g c =
    let step = (c.start_write.ensures.step c.requires.stands.0 c.requires.stands.1).0 in
    record { stands = (with_cell c.requires.stands.0 c.args.id step.to.cell, step.to.stands _ c.requires.stands.1) }

pub returns-then-is_err : goal.returns-then-is_err
returns-then-is_err g c =
    let step = (c.start_write.ensures.step c.requires.stands.0 c.requires.stands.1).0 in
    record { stands = (with_cell c.requires.stands.0 c.args.id step.to.cell, step.to.stands _ c.requires.stands.1) }

pub returns-in_default : goal.returns-in_default
returns-in_default g c =
    let step = (c.start_write.ensures.step c.requires.stands.0 c.requires.stands.1).0 in
    record { stands = (with_cell c.requires.stands.0 c.args.id step.to.cell, step.to.stands _ c.requires.stands.1) }

pub finish-requires-clause-stands : goal.finish-requires-clause-stands
finish-requires-clause-stands g c =
    let step = (c.start_write.ensures.step c.requires.stands.0 c.requires.stands.1).0 in
    (with_cell c.requires.stands.0 c.args.id step.to.cell, step.to.stands _ c.requires.stands.1)

pub finish-requires-clause-belongs : goal.finish-requires-clause-belongs
finish-requires-clause-belongs g c =
    let written = c.in_ok-writer.ensures.writer in
    let keeps = c.push.ensures.keeps in
    let not_err : is_err c.push.result ≡ false = sym c.is_err.ensures.value ∙ c.if-is_err.false in
    let has_pushed = at_ok c.push.result not_err (c.push.ensures.pushed _ [] written.pushed) in
    let pushed = stands_pushed written keeps (ap (option_map g.D.Draft.Draft.place) (at_ok c.push.result not_err c.push.ensures.goes_on)) has_pushed in
    let sealed = c.in-Ok.ensures in
    let pair = stands_sealed pushed sealed.id sealed.stamp sealed.vol sealed.places.0 sealed.places.1 (sealed.sealed _ _ has_pushed) in
    (c.args.piece.now, pair)

pub returns-in-Ok-finish : goal.returns-in-Ok-finish
returns-in-Ok-finish g c =
    let cells = c.requires.stands.0 in
    let started = (c.start_write.ensures.step cells c.requires.stands.1).0 in
    let what = c.in_ok-writer.ensures.what in
    let written = c.in_ok-writer.ensures.writer in
    let w = c.in_ok-writer.writer in
    let new = c.push.new.self in
    let keeps = c.push.ensures.keeps in
    let piece = c.args.piece.now in
    let not_err : is_err c.push.result ≡ false = sym c.is_err.ensures.value ∙ c.if-is_err.false in
    let has_pushed = at_ok c.push.result not_err (c.push.ensures.pushed _ [] written.pushed) in
    let pushed = stands_pushed written keeps (ap (option_map g.D.Draft.Draft.place) (at_ok c.push.result not_err c.push.ensures.goes_on)) has_pushed in
    let sealed = c.in-Ok.ensures in
    let pair = stands_sealed pushed sealed.id sealed.stamp sealed.vol sealed.places.0 sealed.places.1 (sealed.sealed _ _ has_pushed) in
    let grows = own_cell cells c.args.id w.id started.to.cell what.0
    ∙ bare_cell started.to.cell c.args.stamp w.stamp _ w.reserved w.len (started.to.says.3 (ap is_ok c.in_ok-writer.was)) what.1 what.2 written.pushed.len in
    let grown = pushes {room = any_room} _ _ (block_books c.start_write.new.self.map) (with_cell cells c.args.id started.to.cell) (writer_of g.D.Draft.Draft.place g.D.Draft.Draft.bytes w) [] piece new.stamp new.len new.reserved
    written grows (at_ok c.push.result not_err c.push.ensures.within) keeps.stamp (at_ok c.push.result not_err c.push.ensures.len) keeps.reserved in
    let left = new.reserved - new.len in
    let ended = (c.finish.ensures.step (with_cell (with_cell cells c.args.id started.to.cell) w.id grown.cell) piece left pair (grown.stands _ (started.to.stands _ c.requires.stands.1))
    (own_cell (with_cell cells c.args.id started.to.cell) w.id c.in-Ok.pair.id grown.cell (sealed.id ∙ keeps.id)
    ∙ grown.says ∙ ap (λ s. growing s None piece left) (sym sealed.stamp))).0 in
    record { stands = (with_cell (with_cell (with_cell cells c.args.id started.to.cell) w.id grown.cell) c.in-Ok.pair.id ended.to.cell, ended.to.stands nothing (grown.stands _ (started.to.stands _ c.requires.stands.1))) }

pub returns-in-Err : goal.returns-in-Err
returns-in-Err g c =
    let cells = c.requires.stands.0 in
    let started = (c.start_write.ensures.step cells c.requires.stands.1).0 in
    let what = c.in_ok-writer.ensures.what in
    let written = c.in_ok-writer.ensures.writer in
    let w = c.in_ok-writer.writer in
    let new = c.push.new.self in
    let keeps = c.push.ensures.keeps in
    let piece = c.args.piece.now in
    let not_err : is_err c.push.result ≡ false = sym c.is_err.ensures.value ∙ c.if-is_err.false in
    let has_pushed = at_ok c.push.result not_err (c.push.ensures.pushed _ [] written.pushed) in
    let pushed = stands_pushed written keeps (ap (option_map g.D.Draft.Draft.place) (at_ok c.push.result not_err c.push.ensures.goes_on)) has_pushed in
    let sealed = c.in-Ok.ensures in
    let pair = stands_sealed pushed sealed.id sealed.stamp sealed.vol sealed.places.0 sealed.places.1 (sealed.sealed _ _ has_pushed) in
    let grows = own_cell cells c.args.id w.id started.to.cell what.0
    ∙ bare_cell started.to.cell c.args.stamp w.stamp _ w.reserved w.len (started.to.says.3 (ap is_ok c.in_ok-writer.was)) what.1 what.2 written.pushed.len in
    let grown = pushes {room = any_room} _ _ (block_books c.start_write.new.self.map) (with_cell cells c.args.id started.to.cell) (writer_of g.D.Draft.Draft.place g.D.Draft.Draft.bytes w) [] piece new.stamp new.len new.reserved
    written grows (at_ok c.push.result not_err c.push.ensures.within) keeps.stamp (at_ok c.push.result not_err c.push.ensures.len) keeps.reserved in
    let left = new.reserved - new.len in
    let ended = (c.finish.ensures.step (with_cell (with_cell cells c.args.id started.to.cell) w.id grown.cell) piece left pair (grown.stands _ (started.to.stands _ c.requires.stands.1))
    (own_cell (with_cell cells c.args.id started.to.cell) w.id c.in-Ok.pair.id grown.cell (sealed.id ∙ keeps.id)
    ∙ grown.says ∙ ap (λ s. growing s None piece left) (sym sealed.stamp))).0 in
    record { stands = (with_cell (with_cell (with_cell cells c.args.id started.to.cell) w.id grown.cell) c.in-Ok.pair.id ended.to.cell, ended.to.stands nothing (grown.stands _ (started.to.stands _ c.requires.stands.1))) }
