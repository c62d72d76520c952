use Rattle.std.proofs.Common.{refl, sym, ◌∙◌, option_map}
use Rattle.replica_map.specs.Books.{entry_at, grown_at}
use Rattle.pool_state.specs.Books.{book_entry, book_leftover}
use Rattle.pool_state.proofs.Changing.{unchanged, others_stay}
use Rattle.pool_state.proofs.Foreign.{foreign_removed}
use Rattle.pool_state.proofs.Listing.{listed, rest, within, one_fewer, dropped, first_gone}
use Rattle.pool_state.proofs.Reaching.{reaches_removed_at, reaches_remove_at}
use Rattle.pool_state.proofs.Showing.{begins, calls, rests}
use Rattle.pool_state.proofs.QuietRemovals.{left_placed, removal_failed, removal_done, quiet_images, quiet_stands}
use Rattle.pool_state.proofs.pool_record.Pool.clean_one.Goals as goal

pub remove-requires-clause-low : goal.remove-requires-clause-low
remove-requires-clause-low g c =
    let id = c.args.id in
    let map = c.args.self.now.map in
    let first = c.requires.first in
    (left_placed c.requires.stands.1 id c.requires.valid (option_map (book_entry (grown_at map id)) (entry_at map id)) (book_leftover c.in-Some.leftover) (rest id c.args.at map first)
    (listed id c.args.at map first c.in-Some.leftover (sym c.leftover_at.ensures ∙ c.in-Some.is))).0

pub remove-requires-clause-high : goal.remove-requires-clause-high
remove-requires-clause-high g c =
    let id = c.args.id in
    let map = c.args.self.now.map in
    let first = c.requires.first in
    (left_placed c.requires.stands.1 id c.requires.valid (option_map (book_entry (grown_at map id)) (entry_at map id)) (book_leftover c.in-Some.leftover) (rest id c.args.at map first)
    (listed id c.args.at map first c.in-Some.leftover (sym c.leftover_at.ensures ∙ c.in-Some.is))).1

pub drop_leftover-requires : goal.drop_leftover-requires
drop_leftover-requires g c = record { within = within c.args.id c.args.at c.args.self.now.map c.requires.first }

pub returns-clause-fewer : goal.returns-clause-fewer
returns-clause-fewer g c = one_fewer c.args.id c.args.at c.args.self.now.map c.requires.first c.drop_leftover.new.self c.drop_leftover.ensures.rows c.drop_leftover.ensures.leftovers

pub returns-clause-others : goal.returns-clause-others
returns-clause-others g c =
    others_stay c.args.id _ _ _ _
    (dropped c.args.id c.args.at c.args.self.now.map c.requires.first c.drop_leftover.new.self c.drop_leftover.ensures.rows c.drop_leftover.ensures.leftovers c.drop_leftover.ensures.others) (λ other. refl)

pub returns-in_err-remove-clause-quiet : goal.returns-in_err-remove-clause-quiet
returns-in_err-remove-clause-quiet g c cells stands =
    let id = c.args.id in
    let valid = c.requires.valid in
    let map = c.args.self.now.map in
    let first = c.requires.first in
    let l = c.in-Some.leftover in
    let reaches = reaches_remove_at id l.vol l.file valid c.path.ensures.valid _ (c.as_str.ensures ∙ c.path.ensures.text) _ _ c.remove.ensures.worlds in
    rests (λ known old.
    let leads = removal_failed old id valid (option_map (book_entry (grown_at map id)) (entry_at map id)) (book_leftover l) (rest id c.args.at map first) (listed id c.args.at map first l (sym c.leftover_at.ensures ∙ c.in-Some.is)) in (
      quiet_stands old id valid reaches c.remove.ensures.volumes leads (unchanged id _ _ (λ other. refl)),
      calls _ (begins _ _) c.remove.ensures.time.nothing_else (quiet_images old id valid reaches leads),
    )) stands

pub returns-clause-quiet : goal.returns-clause-quiet
returns-clause-quiet g c cells stands =
    let id = c.args.id in
    let valid = c.requires.valid in
    let map = c.args.self.now.map in
    let first = c.requires.first in
    let l = c.in-Some.leftover in
    let reaches = reaches_removed_at id l.vol l.file valid c.path.ensures.valid _ (c.as_str.ensures ∙ c.path.ensures.text) _ _ c.in_ok-remove.ensures.ok in
    rests (λ known old.
    let leads = removal_done old id valid (option_map (book_entry (grown_at map id)) (entry_at map id)) (book_leftover l) (rest id c.args.at map first) (listed id c.args.at map first l (sym c.leftover_at.ensures ∙ c.in-Some.is)) in (
      quiet_stands old id valid reaches c.remove.ensures.volumes leads
          (dropped id c.args.at map first c.drop_leftover.new.self c.drop_leftover.ensures.rows c.drop_leftover.ensures.leftovers c.drop_leftover.ensures.others),
      calls _ (begins _ _) c.remove.ensures.time.nothing_else (quiet_images old id valid reaches leads),
    )) stands

pub returns-clause-front : goal.returns-clause-front
returns-clause-front g c = first_gone c.args.id c.args.at c.args.self.now.map c.requires.first c.drop_leftover.new.self c.drop_leftover.ensures.rows c.drop_leftover.ensures.leftovers

pub returns-in_err-remove-clause-foreign : goal.returns-in_err-remove-clause-foreign
returns-in_err-remove-clause-foreign g c = foreign_removed c.args.id c.in-Some.leftover.vol c.in-Some.leftover.file c.requires.valid c.path.ensures.valid _ (c.as_str.ensures ∙ c.path.ensures.text) c.remove.ensures.worlds c.remove.ensures.time

pub returns-clause-foreign : goal.returns-clause-foreign
returns-clause-foreign g c = foreign_removed c.args.id c.in-Some.leftover.vol c.in-Some.leftover.file c.requires.valid c.path.ensures.valid _ (c.as_str.ensures ∙ c.path.ensures.text) c.remove.ensures.worlds c.remove.ensures.time
