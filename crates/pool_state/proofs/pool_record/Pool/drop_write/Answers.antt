use Rattle.std.proofs.Common.{◌≡◌, ◌≤◌, Some, None, [], ◌∷◌, true, inl, inr, refl, sym, ◌∙◌, ap, subst, arith}
use Rattle.disk_model.proofs.GoingOn.{went_call, went_then}
use Rattle.volume_layout.proofs.Reading.{is_stamp-IsStamp}
use Rattle.map_model.specs.Cells.{absent, waiting}
use Rattle.volume_layout.specs.declared.block_file.BlockFile.TheVariants.{WritingBlock, WritingMeta}
use Rattle.map_model.specs.Slots.{View, remove_in}
use Rattle.map_model.specs.Steps.{Step, drop_write, failed, done}
use Rattle.map_model.specs.Tenures.{Fails, block_left, meta_left, block_failed, meta_failed}
use Rattle.replica_map.specs.Books.{grown_at}
use Rattle.replica_map.specs.declared.entry.State.TheVariants.{Writing}
use Rattle.pool_state.proofs.AnyRoom.{any_room}
use Rattle.pool_state.specs.Books.{books_with, held_block, held_meta, waits, with_leftover}
use Rattle.pool_state.specs.BookSteps.{given_up as given_up_books, given_up_meta}
use Rattle.pool_state.specs.Reaching.{Then}
use Rattle.pool_state.proofs.Reaching.{reaches_then, reaches_removed_at, reaches_remove_at}
use Rattle.pool_state.proofs.Changing.{pool_stands}
use Rattle.pool_state.proofs.Entries.{with_entry, become, become_alone, writer_in, is_written_entry, written_here, calm_left, not_unwritten, entry_on, settled}
use Rattle.pool_state.proofs.Foreign.{foreign_removed, foreign_then}
use Rattle.pool_state.proofs.Showing.{begins, calls, shown, takes, passes_end}
use Rattle.pool_state.proofs.Ends.{drop_step, writer_placed, dropping_passes, given_up, dropped_leads}
use Rattle.pool_state.proofs.pool_record.Pool.drop_write.Goals as goal

pub unreachable-requires : goal.unreachable-requires
unreachable-requires g c = absurd (not_unwritten c.args.self.now.map c.args.writer.id c.requires.writes (sym c.find.ensures.value ∙ c.in_default.is))

pub give_up-requires-clause-state : goal.give_up-requires-clause-state
give_up-requires-clause-state g c = is_written_entry c.args.self.now.map c.args.writer.id c.in-Some.entry (sym c.find.ensures.value ∙ c.in-Some.is) c.requires.writes

pub give_up_meta-requires-clause-state : goal.give_up_meta-requires-clause-state
give_up_meta-requires-clause-state g c = is_written_entry c.args.self.now.map c.args.writer.id c.in-Some.entry (sym c.find.ensures.value ∙ c.in-Some.is) c.requires.writes

pub remove-requires-clause-low : goal.remove-requires-clause-low
remove-requires-clause-low g c = (entry_on c.args.self.now.map c.args.writer.id (c.requires.stands.1.fit c.args.writer.id c.find.ensures.valid) c.in-Some.entry (sym c.find.ensures.value ∙ c.in-Some.is)).0

pub remove-requires-clause-high : goal.remove-requires-clause-high
remove-requires-clause-high g c = (entry_on c.args.self.now.map c.args.writer.id (c.requires.stands.1.fit c.args.writer.id c.find.ensures.valid) c.in-Some.entry (sym c.find.ensures.value ∙ c.in-Some.is)).1

pub remove-requires-2-clause-high : goal.remove-requires-2-clause-high
remove-requires-2-clause-high g c = subst (λ n. c.in-Some.entry.vol ≤ n) (sym c.in-Ok.ensures.volumes)
    (entry_on c.args.self.now.map c.args.writer.id (c.requires.stands.1.fit c.args.writer.id c.find.ensures.valid) c.in-Some.entry (sym c.find.ensures.value ∙ c.in-Some.is)).1

pub returns-in-Err-clause-step : goal.returns-in-Err-clause-step
returns-in-Err-clause-step g c cells bytes left stands grows =
    let id = c.args.writer.id in
    let map = c.args.self.now.map in
    let valid = c.find.ensures.valid in
    let e = c.in-Some.entry in
    let has = sym c.find.ensures.value ∙ c.in-Some.is in
    let state = is_written_entry map id e has c.requires.writes in
    let fit = stands.fit id valid in
    let w = writer_in (grown_at map id) e in
    let is = written_here map id fit e has state in
    let none = calm_left map id fit e has Writing state tt in
    let stamp = c.args.writer.stamp in
    let placed = writer_placed stands id stamp left bytes valid grows w is in
    let step : View → View → Type 0 = λ before after. Fails before (remove_in before w.vol WritingBlock) after in
    let reaches = reaches_remove_at id w.vol WritingBlock valid refl _ (c.as_str.ensures ∙ c.rbw_block.ensures) _ _ c.in-Err.ensures.worlds in
    takes waiting (subst (λ cell. Step any_room cell drop_write failed waiting) (sym grows) (drop_step stamp left bytes failed waiting refl))
    (λ e. refl, λ e. absurd cc)
    (λ known old.
    let leads = given_up old id stamp left bytes valid grows w is step (block_left w true ∷ meta_left w true ∷ []) (placed, (placed, tt)) (λ before after stepped. block_failed after stepped) in (
      pool_stands old id valid reaches c.in-Err.ensures.volumes leads
          (settled map c.give_up.new.map (λ l. with_leftover (held_meta e) (with_leftover (held_block e) (books_with None (Some (waits e)) l))) c.in-Some.ensures.own c.give_up.ensures.books none),
      calls _ (begins _ _) c.in-Err.ensures.time.nothing_else (shown old id valid step _ reaches waiting (dropping_passes old id stamp left bytes valid grows w is waiting leads)),
    )) stands

pub returns-in-Err-remove-clause-step : goal.returns-in-Err-remove-clause-step
returns-in-Err-remove-clause-step g c cells bytes left stands grows =
    let id = c.args.writer.id in
    let map = c.args.self.now.map in
    let valid = c.find.ensures.valid in
    let e = c.in-Some.entry in
    let stamped = c.get-in_range.ensures.in_range in
    let has = sym c.find.ensures.value ∙ c.in-Some.is in
    let state = is_written_entry map id e has c.requires.writes in
    let fit = stands.fit id valid in
    let w = writer_in (grown_at map id) e in
    let is = written_here map id fit e has state in
    let none = calm_left map id fit e has Writing state tt in
    let stamp = c.args.writer.stamp in
    let placed = writer_placed stands id stamp left bytes valid grows w is in
    let one : View → View → Type 0 = λ before after. after ≡ remove_in before w.vol WritingBlock in
    let step : View → View → Type 0 = Then one (λ before after. Fails before (remove_in before w.vol (WritingMeta w.stamp)) after) in
    let first = reaches_removed_at id w.vol WritingBlock valid refl _ (c.as_str.ensures ∙ c.rbw_block.ensures) _ _ c.in-Ok.ensures.ok in
    let reaches = reaches_then id _ _ _ _ _ first
    (reaches_remove_at id w.vol (WritingMeta w.stamp) valid (is_stamp-IsStamp w.stamp stamped) _ (c.as_str-2.ensures ∙ c.rbw_meta.ensures) _ _ c.in-Err-remove.ensures.worlds) in
    takes waiting (subst (λ cell. Step any_room cell drop_write failed waiting) (sym grows) (drop_step stamp left bytes failed waiting refl))
    (λ e. refl, λ e. absurd cc)
    (λ known old.
    let half = given_up old id stamp left bytes valid grows w is one (block_left w true ∷ meta_left w true ∷ []) (placed, (placed, tt)) (λ before after stepped. block_failed after (inr stepped)) in
    let leads = given_up old id stamp left bytes valid grows w is step (meta_left w true ∷ []) (placed, tt)
    (λ before after stepped. meta_failed after (subst (λ v. Fails v (remove_in v w.vol (WritingMeta w.stamp)) after) stepped.1 stepped.2)) in (
      pool_stands old id valid reaches (c.in-Err-remove.ensures.volumes ∙ c.in-Ok.ensures.volumes) leads
          (settled map c.give_up_meta.new.map (λ l. with_leftover (held_meta e) (books_with None (Some (waits e)) l)) c.in-Some.ensures.own c.give_up_meta.ensures.books none),
      calls _ (calls _ (begins _ _) c.in-Ok.ensures.time.nothing_else (shown old id valid one _ first waiting (dropping_passes old id stamp left bytes valid grows w is waiting half)))
          c.in-Err-remove.ensures.time.nothing_else (shown old id valid step _ reaches waiting (dropping_passes old id stamp left bytes valid grows w is waiting leads)),
    )) stands

pub returns-clause-step : goal.returns-clause-step
returns-clause-step g c cells bytes left stands grows =
    let id = c.args.writer.id in
    let map = c.args.self.now.map in
    let valid = c.find.ensures.valid in
    let e = c.in-Some.entry in
    let stamped = c.get-in_range.ensures.in_range in
    let has = sym c.find.ensures.value ∙ c.in-Some.is in
    let state = is_written_entry map id e has c.requires.writes in
    let fit = stands.fit id valid in
    let w = writer_in (grown_at map id) e in
    let is = written_here map id fit e has state in
    let none = calm_left map id fit e has Writing state tt in
    let stamp = c.args.writer.stamp in
    let placed = writer_placed stands id stamp left bytes valid grows w is in
    let one : View → View → Type 0 = λ before after. after ≡ remove_in before w.vol WritingBlock in
    let step : View → View → Type 0 = Then one (λ before after. after ≡ remove_in before w.vol (WritingMeta w.stamp)) in
    let first = reaches_removed_at id w.vol WritingBlock valid refl _ (c.as_str.ensures ∙ c.rbw_block.ensures) _ _ c.in-Ok.ensures.ok in
    let reaches = reaches_then id _ _ _ _ _ first
    (reaches_removed_at id w.vol (WritingMeta w.stamp) valid (is_stamp-IsStamp w.stamp stamped) _ (c.as_str-2.ensures ∙ c.rbw_meta.ensures) _ _ c.in-Ok-remove.ensures.ok) in
    takes absent (subst (λ cell. Step any_room cell drop_write done absent) (sym grows) (drop_step stamp left bytes done absent (refl, refl)))
    (λ e. absurd cc, λ e. refl)
    (λ known old.
    let half = given_up old id stamp left bytes valid grows w is one (block_left w true ∷ meta_left w true ∷ []) (placed, (placed, tt)) (λ before after stepped. block_failed after (inr stepped)) in
    let leads = dropped_leads old id stamp left bytes valid grows w is step (λ before after stepped. stepped.2 ∙ ap (λ v. remove_in v w.vol (WritingMeta w.stamp)) stepped.1) in (
      pool_stands old id valid reaches (c.in-Ok-remove.ensures.volumes ∙ c.in-Ok.ensures.volumes) leads
          (settled map c.take_away.new.map (λ l. books_with None None l) c.in-Some.ensures.own c.take_away.ensures.books none),
      calls _ (calls _ (begins _ _) c.in-Ok.ensures.time.nothing_else (shown old id valid one _ first absent (dropping_passes old id stamp left bytes valid grows w is absent half)))
          c.in-Ok-remove.ensures.time.nothing_else (shown old id valid step _ reaches absent (passes_end old id valid leads)),
    )) stands

pub returns-in-Err-remove-clause-goes_on : goal.returns-in-Err-remove-clause-goes_on
returns-in-Err-remove-clause-goes_on g c = went_then g.D.PoolDisks _ _ _
    (went_call g.D.PoolDisks (g.met.D.PoolDisks.counts_now _) c.in-Ok.ensures.time c.in-Ok.ensures.worlds.honest c.in-Ok.ensures.cause.later c.in-Ok.ensures.absences (omega (arith, c.in-Ok.ensures.numbers)) c.in-Ok.ensures.volumes)
    (went_call g.D.PoolDisks (g.met.D.PoolDisks.counts_now _) c.in-Err-remove.ensures.time c.in-Err-remove.ensures.worlds.honest c.in-Err-remove.ensures.cause.later c.in-Err-remove.ensures.absences (omega (arith, c.in-Err-remove.ensures.numbers)) c.in-Err-remove.ensures.volumes)

pub returns-clause-goes_on : goal.returns-clause-goes_on
returns-clause-goes_on g c = went_then g.D.PoolDisks _ _ _
    (went_call g.D.PoolDisks (g.met.D.PoolDisks.counts_now _) c.in-Ok.ensures.time c.in-Ok.ensures.worlds.honest c.in-Ok.ensures.cause.later c.in-Ok.ensures.absences (omega (arith, c.in-Ok.ensures.numbers)) c.in-Ok.ensures.volumes)
    (went_call g.D.PoolDisks (g.met.D.PoolDisks.counts_now _) c.in-Ok-remove.ensures.time c.in-Ok-remove.ensures.worlds.honest c.in-Ok-remove.ensures.cause.later c.in-Ok-remove.ensures.absences (omega (arith, c.in-Ok-remove.ensures.numbers)) c.in-Ok-remove.ensures.volumes)

pub returns-in-Err-clause-goes_on : goal.returns-in-Err-clause-goes_on
returns-in-Err-clause-goes_on g c =
    went_call g.D.PoolDisks (g.met.D.PoolDisks.counts_now _) c.in-Err.ensures.time c.in-Err.ensures.worlds.honest c.in-Err.ensures.cause.later c.in-Err.ensures.absences (omega (arith, c.in-Err.ensures.numbers)) c.in-Err.ensures.volumes

pub returns-in-Err-clause-books : goal.returns-in-Err-clause-books
returns-in-Err-clause-books g c =
    let map = c.args.self.now.map in
    let e = c.in-Some.entry in
    inl (become map c.give_up.new.map (λ l. with_leftover (held_meta e) (with_leftover (held_block e) (books_with None (Some (waits e)) l))) c.in-Some.ensures.own c.give_up.ensures.books
    ∙ sym (ap given_up_books (with_entry map c.args.writer.id e (sym c.find.ensures.value ∙ c.in-Some.is))))

pub returns-in-Err-remove-clause-books : goal.returns-in-Err-remove-clause-books
returns-in-Err-remove-clause-books g c =
    let map = c.args.self.now.map in
    let e = c.in-Some.entry in
    inr (become map c.give_up_meta.new.map (λ l. with_leftover (held_meta e) (books_with None (Some (waits e)) l)) c.in-Some.ensures.own c.give_up_meta.ensures.books
    ∙ sym (ap given_up_meta (with_entry map c.args.writer.id e (sym c.find.ensures.value ∙ c.in-Some.is))))

pub returns-clause-books : goal.returns-clause-books
returns-clause-books g c =
    let id = c.args.writer.id in
    let map = c.args.self.now.map in
    let e = c.in-Some.entry in
    let has = sym c.find.ensures.value ∙ c.in-Some.is in
    become_alone map c.take_away.new.map (λ l. books_with None None l) c.in-Some.ensures.own c.take_away.ensures.books
    (calm_left map id (c.requires.stands.1.fit id c.find.ensures.valid) e has Writing (is_written_entry map id e has c.requires.writes) tt)

pub returns-in-Err-clause-foreign : goal.returns-in-Err-clause-foreign
returns-in-Err-clause-foreign g c =
    foreign_removed c.args.writer.id c.in-Some.entry.vol WritingBlock c.find.ensures.valid refl _ (c.as_str.ensures ∙ c.rbw_block.ensures) c.in-Err.ensures.worlds c.in-Err.ensures.time

pub returns-in-Err-remove-clause-foreign : goal.returns-in-Err-remove-clause-foreign
returns-in-Err-remove-clause-foreign g c = foreign_then
    (foreign_removed c.args.writer.id c.in-Some.entry.vol WritingBlock c.find.ensures.valid refl _ (c.as_str.ensures ∙ c.rbw_block.ensures) c.in-Ok.ensures.worlds c.in-Ok.ensures.time)
    (foreign_removed c.args.writer.id c.in-Some.entry.vol (WritingMeta c.in-Some.entry.stamp) c.find.ensures.valid (is_stamp-IsStamp c.in-Some.entry.stamp c.get-in_range.ensures.in_range) _ (c.as_str-2.ensures ∙ c.rbw_meta.ensures) c.in-Err-remove.ensures.worlds c.in-Err-remove.ensures.time)

pub returns-clause-foreign : goal.returns-clause-foreign
returns-clause-foreign g c = foreign_then
    (foreign_removed c.args.writer.id c.in-Some.entry.vol WritingBlock c.find.ensures.valid refl _ (c.as_str.ensures ∙ c.rbw_block.ensures) c.in-Ok.ensures.worlds c.in-Ok.ensures.time)
    (foreign_removed c.args.writer.id c.in-Some.entry.vol (WritingMeta c.in-Some.entry.stamp) c.find.ensures.valid (is_stamp-IsStamp c.in-Some.entry.stamp c.get-in_range.ensures.in_range) _ (c.as_str-2.ensures ∙ c.rbw_meta.ensures) c.in-Ok-remove.ensures.worlds c.in-Ok-remove.ensures.time)
