use Rattle.std.proofs.Common.{◌≡◌, ℕ, [], ◌∷◌, true, Some, None, Err, refl, sym, ◌∙◌, ap, subst, arith, inl, inr, option_map}
use Rattle.disk_model.specs.Worlds.{DraftPlace, draft_at}
use Rattle.disk_model.specs.Told.{NoDraftAt}
use Rattle.disk_model.proofs.GoingOn.{went_call, went_then}
use Rattle.volume_layout.proofs.Reading.{is_stamp-IsStamp}
use Rattle.map_model.specs.Cells.{Cell, absent, waiting, growing}
use Rattle.volume_layout.specs.declared.block_file.BlockFile.TheVariants.{WritingBlock, WritingMeta}
use Rattle.map_model.specs.Slots.{View, create_in}
use Rattle.map_model.specs.Steps.{failed, memory, done}
use Rattle.map_model.specs.Stands.{is_waiting, BlockBooks}
use Rattle.map_model.specs.Tenures.{books_of, writer_entry, written_books, block_left, meta_left, Fails, block_failed, meta_failed, meta_memory, StartsWrite}
use Rattle.replica_map.specs.declared.entry.Entry.{Entry}
use Rattle.replica_map.specs.declared.entry.Grown.{Grown}
use Rattle.replica_map.specs.declared.entry.State.TheVariants.{Writing, Waiting}
use Rattle.pool_state.specs.Books.{block_books, books_with, held_block, held_meta, with_leftover}
use Rattle.pool_state.specs.Writers.{writer_at}
use Rattle.pool_state.specs.Stands.{IsVolume}
use Rattle.pool_state.specs.Reaching.{Stays, Then}
use Rattle.pool_state.proofs.Reaching.{reaches_same, reaches_create_at, reaches_created_at, reaches_then}
use Rattle.pool_state.proofs.Changing.{pool_stands, changed_to, stands_unchanged}
use Rattle.pool_state.proofs.Entries.{nothing_said, become_alone}
use Rattle.pool_state.proofs.Foreign.{foreign_created, foreign_then}
use Rattle.pool_state.proofs.Showing.{begins, calls, shown, stays_passes, passes_end, takes}
use Rattle.pool_state.proofs.Starting.{refused_books, step_of, waits_passes, start_waits, start_grows, start_free, start_free_meta, is_absent}
use Rattle.pool_state.specs.Rooms.{choosing_of, room_of}
use Rattle.pool_state.proofs.Drawing.{drawn_by, failed_books, lacked_books, started_books}
use Rattle.std.proofs.lemmas.Bool.{eq-eqb}
use Rattle.pair_draft.specs.Writers.{writer_of}
use Rattle.pool_state.proofs.Belonging.{told_empty, started_stands}
use Rattle.pool_state.proofs.pool_record.Pool.start_write.Goals as goal

not_waiting : (cell : Cell) → cell ≡ absent → cell ≡ waiting → ⊥
not_waiting cell is waits = let same : absent ≡ waiting = sym is ∙ waits in cc

pub returns-in-Some-clause-step : goal.returns-in-Some-clause-step
returns-in-Some-clause-step g c cells stands =
    let so = c.in-Some.ensures.not_a_fault in
    takes (cells c.args.id) (c.in-Some.ensures.refused cells c.args.stamp stands)
    (λ e. absurd (so.0 cc), λ e w. absurd (so.1 cc), λ e. inl refl, λ e. absurd cc)
    (λ known old. (stands_unchanged c.args.id old refl refl (λ other. refl), begins _ _)) stands

pub returns-in-Some-clause-books : goal.returns-in-Some-clause-books
returns-in-Some-clause-books g c =
    refused_books c.in-Some.fault _ c.args.stamp c.args.need (choosing_of c.args.self.now) (block_books c.args.self.now.map c.args.id) c.in-Some.ensures.not_a_fault

pub returns-in_default-reserve_sums-clause-step : goal.returns-in_default-reserve_sums-clause-step
returns-in_default-reserve_sums-clause-step g c cells stands =
    let id = c.args.id in
    let map = c.args.self.now.map in
    let valid = c.write_refusal.ensures.valid in
    let no_entry = c.write_refusal.ensures.none c.in_default.is in
    let fit = stands.fit id valid in
    let none = nothing_said map id fit no_entry in
    takes (cells id)
    (step_of stands id valid none (room_of c.args.self.now) c.args.stamp c.args.need memory (cells id) (c.write_refusal.ensures.fits c.in_default.is) (inl (is_absent stands id valid none)))
    (λ e. absurd cc, λ e w. absurd (not_waiting _ (is_absent stands id valid none) w), λ e. inl refl, λ e. absurd cc)
    (λ known old. (stands_unchanged id old refl refl (λ other. refl), begins _ _)) stands

pub returns-in_default-make_room-clause-step : goal.returns-in_default-make_room-clause-step
returns-in_default-make_room-clause-step g c cells stands =
    let id = c.args.id in
    let map = c.args.self.now.map in
    let valid = c.write_refusal.ensures.valid in
    let no_entry = c.write_refusal.ensures.none c.in_default.is in
    let fit = stands.fit id valid in
    let none = nothing_said map id fit no_entry in
    takes (cells id)
    (step_of stands id valid none (room_of c.args.self.now) c.args.stamp c.args.need memory (cells id) (c.write_refusal.ensures.fits c.in_default.is) (inl (is_absent stands id valid none)))
    (λ e. absurd cc, λ e w. absurd (not_waiting _ (is_absent stands id valid none) w), λ e. inl refl, λ e. absurd cc)
    (λ known old. (stands_unchanged id old refl refl c.make_room.ensures.books, begins _ _)) stands

pub create-requires-clause-free : goal.create-requires-clause-free
create-requires-clause-free g c =
    let id = c.args.id in
    let vol = c.choose_volume-vol.result in
    subst (NoDraftAt (g.D.PoolDisks.worlds c.args.self.now.disks) vol) (sym (c.as_str.ensures ∙ c.rbw_block.ensures))
    (start_free c.requires.stands.1 id c.write_refusal.ensures.valid
    (nothing_said c.args.self.now.map id (c.requires.stands.1.fit id c.write_refusal.ensures.valid) (c.write_refusal.ensures.none c.in_default.is)) vol WritingBlock refl)

pub returns-in-Err-Failed-clause-step : goal.returns-in-Err-Failed-clause-step
returns-in-Err-Failed-clause-step g c cells stands =
    let id = c.args.id in
    let vol = c.choose_volume-vol.result in
    let map = c.args.self.now.map in
    let valid = c.write_refusal.ensures.valid in
    let no_entry = c.write_refusal.ensures.none c.in_default.is in
    let fit = stands.fit id valid in
    let none = nothing_said map id fit no_entry in
    let made = c.make_room.new.map in
    let stamped = c.get-in_range.ensures.in_range in
    let none_left = ap (λ (b : BlockBooks). b.leftovers) (c.make_room.ensures.books id ∙ none) in
    let b = g.D.PoolDisks.next_number c.args.self.now.disks in
    let w = writer_at c.args.stamp vol c.args.need c.args.self.now.next_rev b 0 in
    let waiting_entry : Entry = record { id = id; stamp = c.args.stamp; len = c.args.need; vol = vol; rev = c.args.self.now.next_rev; state = Waiting } in
    let step : View → View → Type 0 = λ before after. Fails before (create_in before vol WritingBlock b) after in
    let reaches = reaches_create_at id vol WritingBlock b valid refl refl _ (c.as_str.ensures ∙ c.rbw_block.ensures) _ _ c.in-Err-Failed.ensures.worlds in
    takes waiting (step_of stands id valid none (room_of c.args.self.now) c.args.stamp c.args.need failed waiting (c.write_refusal.ensures.fits c.in_default.is) (inr refl))
    (λ e. refl, λ e w. absurd cc, λ e. inr refl, λ e. absurd cc)
    (λ known old.
    let leads = start_waits old id valid none w stamped c.choose_volume-vol.ensures.placed step (block_left w true ∷ []) (c.choose_volume-vol.ensures.placed, tt) (λ before after stepped. block_failed after stepped) in (
      pool_stands old id valid reaches c.in-Err-Failed.ensures.volumes leads
          (changed_to id (block_books map) (block_books made) _ _ _ c.add_half_created.ensures.books c.make_room.ensures.books
          (ap (λ l. with_leftover (held_block waiting_entry) (books_with None (Some waiting_entry) l)) none_left)),
      calls _ (begins _ _) c.in-Err-Failed.ensures.time.nothing_else (shown old id valid step _ reaches waiting (waits_passes old id valid none w stamped c.choose_volume-vol.ensures.placed waiting leads)),
    )) stands

pub returns-in-Err-Memory-clause-step : goal.returns-in-Err-Memory-clause-step
returns-in-Err-Memory-clause-step g c cells stands =
    let id = c.args.id in
    let map = c.args.self.now.map in
    let valid = c.write_refusal.ensures.valid in
    let no_entry = c.write_refusal.ensures.none c.in_default.is in
    let fit = stands.fit id valid in
    let none = nothing_said map id fit no_entry in
    let same = (c.in-Err-Memory.ensures.memory (ap Err c.in-Err-Memory.field-0-is)).0 in
    takes (cells id) (step_of stands id valid none (room_of c.args.self.now) c.args.stamp c.args.need memory (cells id) (c.write_refusal.ensures.fits c.in_default.is) (inl (is_absent stands id valid none)))
    (λ e. absurd cc, λ e w. absurd (not_waiting _ (is_absent stands id valid none) w), λ e. inl refl, λ e. absurd cc)
    (λ known old. (
      stands_unchanged id old same c.in-Err-Memory.ensures.volumes c.make_room.ensures.books,
      calls _ (begins _ _) c.in-Err-Memory.ensures.time.nothing_else (shown old id valid Stays _ (reaches_same id _ _ same) (cells id) (stays_passes old id valid)),
    )) stands

pub create-requires-2-clause-free : goal.create-requires-2-clause-free
create-requires-2-clause-free g c =
    let id = c.args.id in
    let vol = c.choose_volume-vol.result in
    let number = g.D.PoolDisks.next_number c.args.self.now.disks in
    subst (NoDraftAt (g.D.PoolDisks.worlds c.create.new.self) vol) (sym (c.as_str-2.ensures ∙ c.rbw_meta.ensures))
    (start_free_meta c.requires.stands.1 id c.write_refusal.ensures.valid
    (nothing_said c.args.self.now.map id (c.requires.stands.1.fit id c.write_refusal.ensures.valid) (c.write_refusal.ensures.none c.in_default.is)) _ vol number c.args.stamp c.get-in_range.ensures.in_range
    (is_stamp-IsStamp c.args.stamp c.get-in_range.ensures.in_range)
    (reaches_created_at id vol WritingBlock number c.write_refusal.ensures.valid refl refl _ (c.as_str.ensures ∙ c.rbw_block.ensures) _ _ c.in-Ok-create.ensures.ok))

pub returns-in-Err-Failed-create-clause-step : goal.returns-in-Err-Failed-create-clause-step
returns-in-Err-Failed-create-clause-step g c cells stands =
    let id = c.args.id in
    let vol = c.choose_volume-vol.result in
    let map = c.args.self.now.map in
    let valid = c.write_refusal.ensures.valid in
    let no_entry = c.write_refusal.ensures.none c.in_default.is in
    let fit = stands.fit id valid in
    let none = nothing_said map id fit no_entry in
    let made = c.make_room.new.map in
    let stamped = c.get-in_range.ensures.in_range in
    let none_left = ap (λ (b : BlockBooks). b.leftovers) (c.make_room.ensures.books id ∙ none) in
    let b = g.D.PoolDisks.next_number c.args.self.now.disks in
    let m = g.D.PoolDisks.next_number c.create.new.self in
    let w = writer_at c.args.stamp vol c.args.need c.args.self.now.next_rev b m in
    let one : View → View → Type 0 = λ before after. after ≡ create_in before vol WritingBlock b in
    let waiting_entry : Entry = record { id = id; stamp = c.args.stamp; len = c.args.need; vol = vol; rev = c.args.self.now.next_rev; state = Waiting } in
    let first = reaches_created_at id vol WritingBlock b valid refl refl _ (c.as_str.ensures ∙ c.rbw_block.ensures) _ _ c.in-Ok-create.ensures.ok in
    let step : View → View → Type 0 = Then one (λ before after. Fails before (create_in before vol (WritingMeta c.args.stamp) m) after) in
    let reaches = reaches_then id _ _ _ _ _ first
    (reaches_create_at id vol (WritingMeta c.args.stamp) m valid (is_stamp-IsStamp c.args.stamp stamped) refl _ (c.as_str-2.ensures ∙ c.rbw_meta.ensures) _ _ c.in-Err-Failed-create.ensures.worlds) in
    takes waiting (step_of stands id valid none (room_of c.args.self.now) c.args.stamp c.args.need failed waiting (c.write_refusal.ensures.fits c.in_default.is) (inr refl))
    (λ e. refl, λ e w. absurd cc, λ e. inr refl, λ e. absurd cc)
    (λ known old.
    let placed : IsVolume (g.D.PoolDisks.volume_count c.args.self.now.disks) vol = c.choose_volume-vol.ensures.placed in
    let half = start_waits old id valid none w stamped placed one (block_left w true ∷ []) (placed, tt) (λ before after stepped. block_failed after (inr stepped)) in
    let leads = start_waits old id valid none w stamped placed step (block_left w true ∷ meta_left w true ∷ []) (placed, (placed, tt))
    (λ before after stepped. meta_failed after (subst (λ v. Fails v (create_in v vol (WritingMeta c.args.stamp) m) after) stepped.1 stepped.2)) in (
      pool_stands old id valid reaches (c.in-Err-Failed-create.ensures.volumes ∙ c.in-Ok-create.ensures.volumes) leads
          (changed_to id (block_books map) (block_books made) _ _ _ c.add_created.ensures.books c.make_room.ensures.books
          (ap (λ l. with_leftover (held_meta waiting_entry) (with_leftover (held_block waiting_entry) (books_with None (Some waiting_entry) l))) none_left)),
      calls _ (calls _ (begins _ _) c.in-Ok-create.ensures.time.nothing_else (shown old id valid one _ first waiting (waits_passes old id valid none w stamped placed waiting half)))
          c.in-Err-Failed-create.ensures.time.nothing_else (shown old id valid step _ reaches waiting (waits_passes old id valid none w stamped placed waiting leads)),
    )) stands

pub returns-in-Err-Memory-create-clause-step : goal.returns-in-Err-Memory-create-clause-step
returns-in-Err-Memory-create-clause-step g c cells stands =
    let id = c.args.id in
    let vol = c.choose_volume-vol.result in
    let map = c.args.self.now.map in
    let valid = c.write_refusal.ensures.valid in
    let no_entry = c.write_refusal.ensures.none c.in_default.is in
    let fit = stands.fit id valid in
    let none = nothing_said map id fit no_entry in
    let made = c.make_room.new.map in
    let stamped = c.get-in_range.ensures.in_range in
    let none_left = ap (λ (b : BlockBooks). b.leftovers) (c.make_room.ensures.books id ∙ none) in
    let b = g.D.PoolDisks.next_number c.args.self.now.disks in
    let w = writer_at c.args.stamp vol c.args.need c.args.self.now.next_rev b 0 in
    let one : View → View → Type 0 = λ before after. after ≡ create_in before vol WritingBlock b in
    let waiting_entry : Entry = record { id = id; stamp = c.args.stamp; len = c.args.need; vol = vol; rev = c.args.self.now.next_rev; state = Waiting } in
    let same = c.in-Err-Memory-create.ensures.memory (ap Err c.in-Err-Memory-create.field-0-is) in
    let first = reaches_created_at id vol WritingBlock b valid refl refl _ (c.as_str.ensures ∙ c.rbw_block.ensures) _ _ c.in-Ok-create.ensures.ok in
    let step : View → View → Type 0 = Then one Stays in
    let reaches = reaches_then id _ _ _ _ _ first (reaches_same id _ _ same.0) in
    let starts : (before after : View) → step before after → StartsWrite before None w after (books_of (Some (writer_entry w is_waiting)) (block_left w true ∷ []) None) waiting =
    λ before after stepped. subst (λ v. StartsWrite before None w v (books_of (Some (writer_entry w is_waiting)) (block_left w true ∷ []) None) waiting) (sym (stepped.2 ∙ stepped.1)) meta_memory in
    takes waiting (step_of stands id valid none (room_of c.args.self.now) c.args.stamp c.args.need memory waiting (c.write_refusal.ensures.fits c.in_default.is) (inr refl))
    (λ e. absurd cc, λ e w. omega (arith, same.1, c.in-Ok-create.ensures.number), λ e. inr refl, λ e. absurd cc)
    (λ known old.
    let placed : IsVolume (g.D.PoolDisks.volume_count c.args.self.now.disks) vol = c.choose_volume-vol.ensures.placed in
    let half = start_waits old id valid none w stamped placed one (block_left w true ∷ []) (placed, tt) (λ before after stepped. block_failed after (inr stepped)) in
    let leads = start_waits old id valid none w stamped placed step (block_left w true ∷ []) (placed, tt) starts in (
      pool_stands old id valid reaches (c.in-Err-Memory-create.ensures.volumes ∙ c.in-Ok-create.ensures.volumes) leads
          (changed_to id (block_books map) (block_books made) _ _ _ c.add_half_created-in-Err-Memory-create.ensures.books c.make_room.ensures.books
          (ap (λ l. with_leftover (held_block waiting_entry) (books_with None (Some waiting_entry) l)) none_left)),
      calls _ (calls _ (begins _ _) c.in-Ok-create.ensures.time.nothing_else (shown old id valid one _ first waiting (waits_passes old id valid none w stamped placed waiting half)))
          c.in-Err-Memory-create.ensures.time.nothing_else (shown old id valid step _ reaches waiting (waits_passes old id valid none w stamped placed waiting leads)),
    )) stands

pub returns-clause-step : goal.returns-clause-step
returns-clause-step g c cells stands =
    let id = c.args.id in
    let vol = c.choose_volume-vol.result in
    let map = c.args.self.now.map in
    let valid = c.write_refusal.ensures.valid in
    let no_entry = c.write_refusal.ensures.none c.in_default.is in
    let fit = stands.fit id valid in
    let none = nothing_said map id fit no_entry in
    let made = c.make_room.new.map in
    let stamped = c.get-in_range.ensures.in_range in
    let none_left = ap (λ (b : BlockBooks). b.leftovers) (c.make_room.ensures.books id ∙ none) in
    let b = g.D.PoolDisks.next_number c.args.self.now.disks in
    let m = g.D.PoolDisks.next_number c.create.new.self in
    let w = writer_at c.args.stamp vol c.args.need c.args.self.now.next_rev b m in
    let one : View → View → Type 0 = λ before after. after ≡ create_in before vol WritingBlock b in
    let first = reaches_created_at id vol WritingBlock b valid refl refl _ (c.as_str.ensures ∙ c.rbw_block.ensures) _ _ c.in-Ok-create.ensures.ok in
    let is_b : c.number.result ≡ b = c.number.ensures ∙ ap (λ (d : DraftPlace). d.number) c.in-Ok-create.ensures.place in
    let is_m : c.number-2.result ≡ m = c.number-2.ensures ∙ ap (λ (d : DraftPlace). d.number) c.in-Ok-create-2.ensures.place in
    let entry : Entry = record { id = id; stamp = c.args.stamp; len = c.args.need; vol = vol; rev = c.args.self.now.next_rev; state = Writing } in
    let grown : ℕ → ℕ → Grown = λ block meta. record { base = None; reserved = c.args.need; block_no = block; meta_no = meta } in
    let becomes = changed_to id (block_books map) (block_books made) _ _ (written_books None [] None w) c.add_writer.ensures.books c.make_room.ensures.books
    (ap (λ l. books_with (Some (grown c.number.result c.number-2.result)) (Some entry) l) none_left
    ∙ ap (λ n. books_with (Some (grown n c.number-2.result)) (Some entry) []) is_b ∙ ap (λ n. books_with (Some (grown b n)) (Some entry) []) is_m) in
    let reaches = reaches_then id _ _ _ _ _ first
    (reaches_created_at id vol (WritingMeta c.args.stamp) m valid (is_stamp-IsStamp c.args.stamp stamped) refl _ (c.as_str-2.ensures ∙ c.rbw_meta.ensures) _ _ c.in-Ok-create-2.ensures.ok) in
    takes (growing c.args.stamp None [] c.args.need) (step_of stands id valid none (room_of c.args.self.now) c.args.stamp c.args.need done (growing c.args.stamp None [] c.args.need) (c.write_refusal.ensures.fits c.in_default.is) (refl, refl))
    (λ e. absurd cc, λ e w. absurd cc, λ e. absurd cc, λ e. refl)
    (λ known old.
    let placed : IsVolume (g.D.PoolDisks.volume_count c.args.self.now.disks) vol = c.choose_volume-vol.ensures.placed in
    let half = start_waits old id valid none w stamped placed one (block_left w true ∷ []) (placed, tt) (λ before after stepped. block_failed after (inr stepped)) in
    let leads = start_grows old id valid none w stamped placed in (
      pool_stands old id valid reaches (c.in-Ok-create-2.ensures.volumes ∙ c.in-Ok-create.ensures.volumes) leads becomes,
      calls _ (calls _ (begins _ _) c.in-Ok-create.ensures.time.nothing_else (shown old id valid one _ first (growing c.args.stamp None [] c.args.need) (waits_passes old id valid none w stamped placed (growing c.args.stamp None [] c.args.need) half)))
          c.in-Ok-create-2.ensures.time.nothing_else (shown old id valid _ _ reaches (growing c.args.stamp None [] c.args.need) (passes_end old id valid leads)),
    )) stands

pub returns-clause-writer : goal.returns-clause-writer
returns-clause-writer g c =
    let id = c.args.id in
    let vol = c.choose_volume-vol.result in
    let map = c.args.self.now.map in
    let none = nothing_said map id (c.requires.stands.1.fit id c.write_refusal.ensures.valid) (c.write_refusal.ensures.none c.in_default.is) in
    let none_left = ap (λ (b : BlockBooks). b.leftovers) (c.make_room.ensures.books id ∙ none) in
    let b = g.D.PoolDisks.next_number c.args.self.now.disks in
    let m = g.D.PoolDisks.next_number c.create.new.self in
    let is_b : c.number.result ≡ b = c.number.ensures ∙ ap (λ (d : DraftPlace). d.number) c.in-Ok-create.ensures.place in
    let is_m : c.number-2.result ≡ m = c.number-2.ensures ∙ ap (λ (d : DraftPlace). d.number) c.in-Ok-create-2.ensures.place in
    let entry : Entry = record { id = id; stamp = c.args.stamp; len = c.args.need; vol = vol; rev = c.args.self.now.next_rev; state = Writing } in
    let grown : ℕ → ℕ → Grown = λ block meta. record { base = None; reserved = c.args.need; block_no = block; meta_no = meta } in
    let here : block_books c.add_writer.new.map id ≡ written_books None [] None (writer_at c.args.stamp vol c.args.need c.args.self.now.next_rev b m) = c.add_writer.ensures.books id
    ∙ rw (eq-eqb id id refl) (ap (λ l. books_with (Some (grown c.number.result c.number-2.result)) (Some entry) l) none_left
    ∙ ap (λ n. books_with (Some (grown n c.number-2.result)) (Some entry) []) is_b ∙ ap (λ n. books_with (Some (grown b n)) (Some entry) []) is_m) in
    started_stands (writer_of g.D.Draft.Draft.place g.D.Draft.Draft.bytes c.new.result) id c.args.stamp vol c.args.need c.args.self.now.next_rev b m c.write_refusal.ensures.valid c.get-in_range.ensures.in_range
    c.new.ensures.id c.new.ensures.stamp c.new.ensures.vol c.new.ensures.reserved here
    (ap g.D.Draft.Draft.place c.new.ensures.block ∙ c.in-Ok-create.ensures.place ∙ ap (λ p. draft_at b vol p) (c.as_str.ensures ∙ c.rbw_block.ensures))
    (ap (option_map g.D.Draft.Draft.place) c.new.ensures.meta ∙ ap Some (c.in-Ok-create-2.ensures.place ∙ ap (λ p. draft_at m vol p) (c.as_str-2.ensures ∙ c.rbw_meta.ensures)))
    (c.new.ensures.pushed _ (λ tells. c.in-Ok-create.ensures.empty ∙ told_empty _ (c.in-Ok-create.ensures.worlds.honest.1 (c.in-Ok-create-2.ensures.worlds.honest.1 tells)))
    (λ tells. c.in-Ok-create-2.ensures.empty ∙ told_empty _ (c.in-Ok-create-2.ensures.worlds.honest.1 tells)))

pub returns-in-Err-Memory-clause-goes_on : goal.returns-in-Err-Memory-clause-goes_on
returns-in-Err-Memory-clause-goes_on g c =
    went_call g.D.PoolDisks (g.met.D.PoolDisks.counts_now _) c.in-Err-Memory.ensures.time c.in-Err-Memory.ensures.worlds.honest c.in-Err-Memory.ensures.cause.later c.in-Err-Memory.ensures.absences c.in-Err-Memory.ensures.numbers.later c.in-Err-Memory.ensures.volumes

pub returns-in-Err-Failed-create-clause-goes_on : goal.returns-in-Err-Failed-create-clause-goes_on
returns-in-Err-Failed-create-clause-goes_on g c = went_then g.D.PoolDisks _ _ _
    (went_call g.D.PoolDisks (g.met.D.PoolDisks.counts_now _) c.in-Ok-create.ensures.time c.in-Ok-create.ensures.worlds.honest c.in-Ok-create.ensures.cause.later c.in-Ok-create.ensures.absences c.in-Ok-create.ensures.numbers.later c.in-Ok-create.ensures.volumes)
    (went_call g.D.PoolDisks (g.met.D.PoolDisks.counts_now _) c.in-Err-Failed-create.ensures.time c.in-Err-Failed-create.ensures.worlds.honest c.in-Err-Failed-create.ensures.cause.later c.in-Err-Failed-create.ensures.absences c.in-Err-Failed-create.ensures.numbers.later c.in-Err-Failed-create.ensures.volumes)

pub returns-in-Err-Memory-create-clause-goes_on : goal.returns-in-Err-Memory-create-clause-goes_on
returns-in-Err-Memory-create-clause-goes_on g c = went_then g.D.PoolDisks _ _ _
    (went_call g.D.PoolDisks (g.met.D.PoolDisks.counts_now _) c.in-Ok-create.ensures.time c.in-Ok-create.ensures.worlds.honest c.in-Ok-create.ensures.cause.later c.in-Ok-create.ensures.absences c.in-Ok-create.ensures.numbers.later c.in-Ok-create.ensures.volumes)
    (went_call g.D.PoolDisks (g.met.D.PoolDisks.counts_now _) c.in-Err-Memory-create.ensures.time c.in-Err-Memory-create.ensures.worlds.honest c.in-Err-Memory-create.ensures.cause.later c.in-Err-Memory-create.ensures.absences c.in-Err-Memory-create.ensures.numbers.later c.in-Err-Memory-create.ensures.volumes)

pub returns-clause-goes_on : goal.returns-clause-goes_on
returns-clause-goes_on g c = went_then g.D.PoolDisks _ _ _
    (went_call g.D.PoolDisks (g.met.D.PoolDisks.counts_now _) c.in-Ok-create.ensures.time c.in-Ok-create.ensures.worlds.honest c.in-Ok-create.ensures.cause.later c.in-Ok-create.ensures.absences c.in-Ok-create.ensures.numbers.later c.in-Ok-create.ensures.volumes)
    (went_call g.D.PoolDisks (g.met.D.PoolDisks.counts_now _) c.in-Ok-create-2.ensures.time c.in-Ok-create-2.ensures.worlds.honest c.in-Ok-create-2.ensures.cause.later c.in-Ok-create-2.ensures.absences c.in-Ok-create-2.ensures.numbers.later c.in-Ok-create-2.ensures.volumes)

pub returns-in-Err-Failed-clause-books : goal.returns-in-Err-Failed-clause-books
returns-in-Err-Failed-clause-books g c =
    let id = c.args.id in
    let vol = c.choose_volume-vol.result in
    let map = c.args.self.now.map in
    let none = nothing_said map id (c.requires.stands.1.fit id c.write_refusal.ensures.valid) (c.write_refusal.ensures.none c.in_default.is) in
    let waiting_entry : Entry = record { id = id; stamp = c.args.stamp; len = c.args.need; vol = vol; rev = c.args.self.now.next_rev; state = Waiting } in
    failed_books _ c.args.stamp c.args.need (choosing_of c.args.self.now) (block_books map id) c.choose_volume-vol.ensures.value
    (inl (become_alone c.make_room.new.map c.add_half_created.new.map (λ l. with_leftover (held_block waiting_entry) (books_with None (Some waiting_entry) l)) refl c.add_half_created.ensures.books
    (ap (λ (b : BlockBooks). b.leftovers) (c.make_room.ensures.books id ∙ none))))
    (drawn_by vol (choosing_of c.args.self.now) c.volume_after-self.ensures.value)

pub returns-in-Err-Memory-clause-books : goal.returns-in-Err-Memory-clause-books
returns-in-Err-Memory-clause-books g c = inl (c.make_room.ensures.books c.args.id, refl)

pub returns-in-Err-Failed-create-clause-books : goal.returns-in-Err-Failed-create-clause-books
returns-in-Err-Failed-create-clause-books g c =
    let id = c.args.id in
    let vol = c.choose_volume-vol.result in
    let map = c.args.self.now.map in
    let none = nothing_said map id (c.requires.stands.1.fit id c.write_refusal.ensures.valid) (c.write_refusal.ensures.none c.in_default.is) in
    let waiting_entry : Entry = record { id = id; stamp = c.args.stamp; len = c.args.need; vol = vol; rev = c.args.self.now.next_rev; state = Waiting } in
    failed_books _ c.args.stamp c.args.need (choosing_of c.args.self.now) (block_books map id) c.choose_volume-vol.ensures.value
    (inr (become_alone c.make_room.new.map c.add_created.new.map (λ l. with_leftover (held_meta waiting_entry) (with_leftover (held_block waiting_entry) (books_with None (Some waiting_entry) l))) refl c.add_created.ensures.books
    (ap (λ (b : BlockBooks). b.leftovers) (c.make_room.ensures.books id ∙ none))))
    (drawn_by vol (choosing_of c.args.self.now) c.volume_after-self-2.ensures.value)

pub returns-in-Err-Memory-create-clause-books : goal.returns-in-Err-Memory-create-clause-books
returns-in-Err-Memory-create-clause-books g c =
    let id = c.args.id in
    let vol = c.choose_volume-vol.result in
    let map = c.args.self.now.map in
    let none = nothing_said map id (c.requires.stands.1.fit id c.write_refusal.ensures.valid) (c.write_refusal.ensures.none c.in_default.is) in
    let waiting_entry : Entry = record { id = id; stamp = c.args.stamp; len = c.args.need; vol = vol; rev = c.args.self.now.next_rev; state = Waiting } in
    lacked_books _ c.args.stamp c.args.need (choosing_of c.args.self.now) (block_books map id) c.choose_volume-vol.ensures.value
    (become_alone c.make_room.new.map c.add_half_created-in-Err-Memory-create.new.map (λ l. with_leftover (held_block waiting_entry) (books_with None (Some waiting_entry) l)) refl c.add_half_created-in-Err-Memory-create.ensures.books
    (ap (λ (b : BlockBooks). b.leftovers) (c.make_room.ensures.books id ∙ none)))
    (drawn_by vol (choosing_of c.args.self.now) c.volume_after-self-2.ensures.value)

pub returns-clause-books : goal.returns-clause-books
returns-clause-books g c =
    let id = c.args.id in
    let vol = c.choose_volume-vol.result in
    let map = c.args.self.now.map in
    let none = nothing_said map id (c.requires.stands.1.fit id c.write_refusal.ensures.valid) (c.write_refusal.ensures.none c.in_default.is) in
    let entry : Entry = record { id = id; stamp = c.args.stamp; len = c.args.need; vol = vol; rev = c.args.self.now.next_rev; state = Writing } in
    let grown : Grown = record { base = None; reserved = c.args.need; block_no = c.number.result; meta_no = c.number-2.result } in
    started_books c.new.result c.args.stamp c.args.need c.number.result c.number-2.result (choosing_of c.args.self.now) (block_books map id) c.choose_volume-vol.ensures.value
    (become_alone c.make_room.new.map c.add_writer.new.map (λ l. books_with (Some grown) (Some entry) l) refl c.add_writer.ensures.books
    (ap (λ (b : BlockBooks). b.leftovers) (c.make_room.ensures.books id ∙ none)))
    (drawn_by vol (choosing_of c.args.self.now) c.volume_after-self-2.ensures.value)

pub returns-in-Err-Failed-clause-goes_on : goal.returns-in-Err-Failed-clause-goes_on
returns-in-Err-Failed-clause-goes_on g c =
    went_call g.D.PoolDisks (g.met.D.PoolDisks.counts_now _) c.in-Err-Failed.ensures.time c.in-Err-Failed.ensures.worlds.honest c.in-Err-Failed.ensures.cause.later c.in-Err-Failed.ensures.absences c.in-Err-Failed.ensures.numbers.later c.in-Err-Failed.ensures.volumes

pub returns-in-Err-Memory-clause-foreign : goal.returns-in-Err-Memory-clause-foreign
returns-in-Err-Memory-clause-foreign g c =
    foreign_created c.args.id _ _ WritingBlock c.write_refusal.ensures.valid refl _ (c.as_str.ensures ∙ c.rbw_block.ensures) c.in-Err-Memory.ensures.worlds c.in-Err-Memory.ensures.time

pub returns-in-Err-Failed-clause-foreign : goal.returns-in-Err-Failed-clause-foreign
returns-in-Err-Failed-clause-foreign g c =
    foreign_created c.args.id _ _ WritingBlock c.write_refusal.ensures.valid refl _ (c.as_str.ensures ∙ c.rbw_block.ensures) c.in-Err-Failed.ensures.worlds c.in-Err-Failed.ensures.time

pub returns-in-Err-Failed-create-clause-foreign : goal.returns-in-Err-Failed-create-clause-foreign
returns-in-Err-Failed-create-clause-foreign g c = foreign_then
    (foreign_created c.args.id _ _ WritingBlock c.write_refusal.ensures.valid refl _ (c.as_str.ensures ∙ c.rbw_block.ensures) c.in-Ok-create.ensures.worlds c.in-Ok-create.ensures.time)
    (foreign_created c.args.id _ _ (WritingMeta c.args.stamp) c.write_refusal.ensures.valid (is_stamp-IsStamp c.args.stamp c.get-in_range.ensures.in_range) _ (c.as_str-2.ensures ∙ c.rbw_meta.ensures) c.in-Err-Failed-create.ensures.worlds c.in-Err-Failed-create.ensures.time)

pub returns-in-Err-Memory-create-clause-foreign : goal.returns-in-Err-Memory-create-clause-foreign
returns-in-Err-Memory-create-clause-foreign g c = foreign_then
    (foreign_created c.args.id _ _ WritingBlock c.write_refusal.ensures.valid refl _ (c.as_str.ensures ∙ c.rbw_block.ensures) c.in-Ok-create.ensures.worlds c.in-Ok-create.ensures.time)
    (foreign_created c.args.id _ _ (WritingMeta c.args.stamp) c.write_refusal.ensures.valid (is_stamp-IsStamp c.args.stamp c.get-in_range.ensures.in_range) _ (c.as_str-2.ensures ∙ c.rbw_meta.ensures) c.in-Err-Memory-create.ensures.worlds c.in-Err-Memory-create.ensures.time)

pub returns-clause-foreign : goal.returns-clause-foreign
returns-clause-foreign g c = foreign_then
    (foreign_created c.args.id _ _ WritingBlock c.write_refusal.ensures.valid refl _ (c.as_str.ensures ∙ c.rbw_block.ensures) c.in-Ok-create.ensures.worlds c.in-Ok-create.ensures.time)
    (foreign_created c.args.id _ _ (WritingMeta c.args.stamp) c.write_refusal.ensures.valid (is_stamp-IsStamp c.args.stamp c.get-in_range.ensures.in_range) _ (c.as_str-2.ensures ∙ c.rbw_meta.ensures) c.in-Ok-create-2.ensures.worlds c.in-Ok-create-2.ensures.time)
