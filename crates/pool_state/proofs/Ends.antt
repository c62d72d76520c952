-- What the end of a fresh write leaves, at each of its exits.
use Rattle.std.proofs.Common.{◌≡◌, inl, inr, ℕ, ◌⊎◌, false, List, [], length, Option, None, Some, refl, sym, ◌∙◌, ap, subst, arith, IsTrue, IfSome, IsSome, nat_lt, unwrap_or}
use Rattle.std.proofs.lemmas.Bool.{eq-eqb, false≢true}
use Rattle.std.proofs.lemmas.Bool.Decides.{nat_tests}
use Rattle.disk_model.specs.Worlds.{World, HasDraft, DraftPlace, draft_at, published}
use Rattle.disk_model.specs.Told.{IsWorldOf, PicksOne, StandsBeforeOrAfter, StillStands, told_bytes}
use Rattle.disk_model.proofs.Laws.{is_told}
use Rattle.volume_layout.specs.Paths.{IsBlockId}
use Rattle.volume_layout.proofs.Reading.{is_stamp-IsStamp}
use Rattle.map_model.specs.Cells.{Replica, Cell, Cells, absent, final, growing, unsure, waiting}
use Rattle.map_model.specs.Sound.{Knowledge, nothing, matching, exactly, Fits, learned}
use Rattle.map_model.specs.Allows.{Allows}
use Rattle.map_model.specs.Steps.{Step, CarriedOut, finish, drop_write, Reply}
use Rattle.volume_layout.specs.declared.block_file.BlockFile.{BlockFile}
use Rattle.volume_layout.specs.declared.block_file.BlockFile.TheVariants.{Meta, WritingBlock, WritingMeta}
use Rattle.volume_layout.specs.BlockFiles.{is_file, path_of}
use Rattle.map_model.specs.Slots.{drafted, View, view_of, publish_in}
use Rattle.map_model.specs.Stands.{Agrees, Each, Leftover, is_written, in_doubt, is_waiting, BlockBooks, BlockStands}
use Rattle.map_model.specs.Tenures.{books_of, Fails, Writer, writer_entry, written_books, final_entry, new_replica, both_published, both_dropped, FinishesFresh, finished, DropsFresh, dropped}
use Rattle.map_model.proofs.FinishFresh.{finish_fresh_stands}
use Rattle.map_model.proofs.Drop.{drop_fresh_stands}
use Rattle.map_model.proofs.Bridge.{view_drafted}
use Rattle.pool_state.proofs.AnyRoom.{any_room}
use Rattle.pool_state.specs.Stands.{IsVolume, PoolStands}
use Rattle.pair_draft.specs.Writers.{Pair}
use Rattle.pool_state.specs.Writers.{writer_at, PairStands, meta_of}
use Rattle.pool_state.specs.Reaching.{Reaches, ComesFrom}
use Rattle.pool_state.proofs.Reaching.{reaches_published, reaches_publish}
use Rattle.pool_state.proofs.Changing.{Leads}
use Rattle.pool_state.proofs.Showing.{Passes, passes}

-- the bytes of a sealed pair's meta file are what is known once they are
pub meta_fits : (known : Knowledge) {told : Option (List World)} {books : ℕ → BlockBooks} {p : Pair} {bytes : List ℕ} (belongs : PairStands told books p bytes) →
    Fits (learned p.id p.stamp (meta_of belongs) known) p.id (meta_of belongs) (record { stamp = p.stamp; bytes = bytes })
meta_fits nothing belongs = tt
meta_fits matching belongs = belongs.sealed.of_bytes.matches
meta_fits (exactly metas) {p = p} belongs = rw (eq-eqb p.id p.id refl) (rw (eq-eqb p.stamp p.stamp refl) refl)

-- more is known of a step where the disks tell
pub reaches_told : (id : ℕ) (step other : View → View → Type 0) (old new : Option (List World)) → Reaches id step old new →
    (IsSome old → (before after : View) → step before after → other before after) → Reaches id other old new
reaches_told id step other old new reaches more = record {
  each = λ world is.
      let from : ComesFrom id step old world = reaches.each world is in
      record {
        was = from.was;
        is = from.is;
        stepped = more (is_told old from.is.0 from.is.1) (view_of from.was id) (view_of world id) from.stepped;
        others = from.others;
        aside = from.aside;
      };
}

-- a publish of a draft whose place, bytes and target are known
module _ (id vol : ℕ) (from target : BlockFile) (number : ℕ) (bytes content : List ℕ) (valid : IsBlockId id) (is_from : IsTrue (is_file from)) (is_target : IsTrue (is_file target))
    (place : DraftPlace) (path : List ℕ) (same_place : place ≡ draft_at number vol (path_of id from)) (same_path : path ≡ path_of id target)
    (old new : Option (List World)) (same_bytes : IsSome old → content ≡ bytes) where
  pub reaches_published_at : {HasAnswer : World → Type 0} → PicksOne HasAnswer (published place content path) old new →
      Reaches id (λ before after. after ≡ publish_in before vol from target bytes) old new
  reaches_published_at {HasAnswer} call =
      reaches_told id (λ before after. after ≡ publish_in before vol from target content) (λ before after. after ≡ publish_in before vol from target bytes) old new
      (reaches_published id vol from target number content valid is_from is_target old new
      (subst (λ d. PicksOne HasAnswer (published d content (path_of id target)) old new) same_place
      (subst (λ p. PicksOne HasAnswer (published place content p) old new) same_path call)))
      (λ told before after stepped. stepped ∙ ap (publish_in before vol from target) (same_bytes told))

  pub reaches_publish_at : StandsBeforeOrAfter (published place content path) old new →
      Reaches id (λ before after. Fails before (publish_in before vol from target bytes) after) old new
  reaches_publish_at call =
      reaches_told id (λ before after. Fails before (publish_in before vol from target content) after) (λ before after. Fails before (publish_in before vol from target bytes) after) old new
      (reaches_publish id vol from target number content valid is_from is_target old new
      (subst (λ d. StandsBeforeOrAfter (published d content (path_of id target)) old new) same_place
      (subst (λ p. StandsBeforeOrAfter (published place content p) old new) same_path call)))
      (λ told before after stepped. subst (λ b. Fails before (publish_in before vol from target b) after) (same_bytes told) stepped)

-- what is told of the bytes
pub same_told : (told : Option (List ℕ)) (bytes : List ℕ) → told ≡ Some bytes → told_bytes told ≡ bytes
same_told told bytes is = ap (λ t. unwrap_or t []) is

no_room_wanted : (left : ℕ) → nat_lt left 0 ≡ false
no_room_wanted left = grind (arith, nat_tests)

pub finish_step : (stamp left : ℕ) (bytes : List ℕ) (reply : Reply) (after : Cell) → CarriedOut (growing stamp None bytes left) finish reply after →
    Step any_room (growing stamp None bytes left) finish reply after
finish_step stamp left bytes reply after out = rw (no_room_wanted left) out

pub drop_step : (stamp left : ℕ) (bytes : List ℕ) (reply : Reply) (after : Cell) → CarriedOut (growing stamp None bytes left) drop_write reply after →
    Step any_room (growing stamp None bytes left) drop_write reply after
drop_step stamp left bytes reply after out = rw (no_room_wanted left) out

-- what a block in doubt allows is allowed by the writer's cell, or by that of the new replica
pub doubt_covers : (stamp left : ℕ) (bytes : List ℕ) (read : Option Replica) → Allows (unsure None (Some (record { stamp = stamp; bytes = bytes })) false) read →
    Allows (growing stamp None bytes left) read ⊎ Allows (final (record { stamp = stamp; bytes = bytes })) read
doubt_covers stamp left bytes read (inl first) = inl first
doubt_covers stamp left bytes read (inr (inl second)) = inr second
doubt_covers stamp left bytes read (inr (inr gone)) = absurd (false≢true gone.0)

module _ {told : Option (List World)} {volumes : ℕ} {books : ℕ → BlockBooks} {known : Knowledge} {cells : Cells}
    (stands : PoolStands told volumes books known cells) (p : Pair) (bytes : List ℕ) (belongs : PairStands told books p bytes) where
  -- the writer of the pair, to its tenure
  abbrev pub writer : Writer
  writer = writer_at p.stamp p.vol belongs.reserved belongs.rev belongs.block_number belongs.meta_number

  -- a block that is written, in a world
  written_in : (world : World) → IsWorldOf told world → BlockStands (Fits known p.id) (view_of world p.id) (written_books None [] None writer) (cells p.id)
  written_in world is = subst (λ b. BlockStands (Fits known p.id) (view_of world p.id) b (cells p.id)) belongs.is (stands.blocks world is p.id belongs.valid.0)

  -- both drafts stand
  pub meta_stands : StillStands told p.meta
  meta_stands world is = subst (HasDraft world) (sym belongs.meta)
      (view_drafted world p.id p.vol (WritingMeta p.stamp) (is_stamp-IsStamp p.stamp belongs.valid.1) belongs.meta_number (written_in world is).writer.1)

  -- and the block's once the meta is published
  pub block_stands : (told' : Option (List World)) → Reaches p.id (λ before after. after ≡ publish_in before p.vol (WritingMeta p.stamp) (Meta p.stamp) (meta_of belongs)) told told' →
      StillStands told' p.block
  block_stands told' reaches world is =
      let from : ComesFrom p.id (λ before after. after ≡ publish_in before p.vol (WritingMeta p.stamp) (Meta p.stamp) (meta_of belongs)) told world = reaches.each world is in
      let there : view_of from.was p.id p.vol WritingBlock ≡ drafted belongs.block_number = (written_in from.was from.is).writer.0 in
      subst (HasDraft world) (sym belongs.block)
      (view_drafted world p.id p.vol WritingBlock refl belongs.block_number
      (subst (λ (v : View). v p.vol WritingBlock ≡ drafted belongs.block_number) (sym from.stepped) there))

  pub placed : IsVolume volumes p.vol
  placed = subst (λ (b : BlockBooks). IfSome b.entry (λ e. IsVolume volumes e.vol)) belongs.is (stands.fit p.id belongs.valid.0).placed

  module _ (left : ℕ) (grows : cells p.id ≡ growing p.stamp None bytes left) (fits : Fits known p.id (meta_of belongs) (record { stamp = p.stamp; bytes = bytes })) where
    -- the new replica
    abbrev pub new : Replica
    new = record { stamp = p.stamp; bytes = bytes }

    own_growing : (view : View) → BlockStands (Fits known p.id) view (books p.id) (cells p.id) →
        BlockStands (Fits known p.id) view (written_books None [] None writer) (growing p.stamp None bytes left)
    own_growing view own = subst (BlockStands (Fits known p.id) view (written_books None [] None writer)) grows
        (subst (λ b. BlockStands (Fits known p.id) view b (cells p.id)) belongs.is own)

    -- a publish failed: the block is in doubt
    pub finish_doubts : (step : View → View → Type 0)
        (ends : (before after : View) → step before after → FinishesFresh before [] None writer (meta_of belongs) bytes after
        (books_of (Some (writer_entry writer (in_doubt None))) [] None) (unsure None (Some new) false)) →
        Leads known p.id volumes step (books p.id) (cells p.id) (books_of (Some (writer_entry writer (in_doubt None))) [] None) (unsure None (Some new) false)
    finish_doubts step ends = record {
      fit = record { agrees = tt; placed = placed; left_placed = tt; clean = λ not. refl; fresh = refl };
      own = λ before after stepped own. finish_fresh_stands (Fits known p.id) before [] None writer (meta_of belongs) bytes left after
          (books_of (Some (writer_entry writer (in_doubt None))) [] None) (unsure None (Some new) false)
          (own_growing before own) fits (ends before after stepped);
    }

    -- on the way to the new replica
    pub new_passes : {step : View → View → Type 0} →
        Leads known p.id volumes step (books p.id) (cells p.id) (books_of (Some (writer_entry writer (in_doubt None))) [] None) (unsure None (Some new) false) →
        Passes stands p.id belongs.valid.0 step (final new)
    new_passes leads = passes stands p.id belongs.valid.0 leads
        (λ read allows. subst (λ c. Allows c read ⊎ Allows (final new) read) (sym grows) (doubt_covers p.stamp left bytes read allows))

    -- both were done: the block is final
    pub finish_ends : (step : View → View → Type 0) → ((before after : View) → step before after → after ≡ both_published before writer (meta_of belongs) bytes) →
        Leads known p.id volumes step (books p.id) (cells p.id) (books_of (Some (final_entry writer (length bytes))) [] None) (final new)
    finish_ends step ends = record {
      fit = record { agrees = (refl, refl, refl); placed = placed; left_placed = tt; clean = λ not. refl; fresh = refl };
      own = λ before after stepped own.
          subst (λ v. BlockStands (Fits known p.id) v (books_of (Some (final_entry writer (length bytes))) [] None) (final (new_replica writer bytes)))
          (sym (ends before after stepped))
          (finish_fresh_stands (Fits known p.id) before [] None writer (meta_of belongs) bytes left (both_published before writer (meta_of belongs) bytes)
          (books_of (Some (final_entry writer (length bytes))) [] None) (final (new_replica writer bytes))
          (own_growing before own) fits finished);
    }

-- A fresh writer that is given up, or is being dropped: its block waits, or is absent.
module _ {told : Option (List World)} {volumes : ℕ} {books : ℕ → BlockBooks} {known : Knowledge} {cells : Cells}
    (stands : PoolStands told volumes books known cells)
    (id stamp left : ℕ) (bytes : List ℕ) (valid : IsBlockId id) (grows : cells id ≡ growing stamp None bytes left)
    (w : Writer) (is : books id ≡ written_books None [] None w) where
  -- the writer's stamp is the cell's
  same_stamp : w.stamp ≡ stamp
  same_stamp = (subst (Agrees (Some (writer_entry w (is_written None w.block_number w.meta_number)))) grows
      (subst (λ (b : BlockBooks). Agrees b.entry (cells id)) is (stands.fit id valid).agrees)).0

  own_written : (view : View) → BlockStands (Fits known id) view (books id) (cells id) →
      BlockStands (Fits known id) view (written_books None [] None w) (growing w.stamp None bytes left)
  own_written view own =
      subst (BlockStands (Fits known id) view (written_books None [] None w)) (grows ∙ ap (λ s. growing s None bytes left) (sym same_stamp))
      (subst (λ b. BlockStands (Fits known id) view b (cells id)) is own)

  pub writer_placed : IsVolume volumes w.vol
  writer_placed = subst (λ (b : BlockBooks). IfSome b.entry (λ e. IsVolume volumes e.vol)) is (stands.fit id valid).placed

  -- the block waits with what may stand of it
  pub given_up : (step : View → View → Type 0) (left_files : List Leftover) → Each (λ l. IsVolume volumes l.vol) left_files →
      ((before after : View) → step before after → DropsFresh before [] None w after (books_of (Some (writer_entry w is_waiting)) left_files None) waiting) →
      Leads known id volumes step (books id) (cells id) (books_of (Some (writer_entry w is_waiting)) left_files None) waiting
  given_up step left_files left_placed drops = record {
    fit = record { agrees = refl; placed = writer_placed; left_placed = left_placed; clean = λ not. absurd not; fresh = refl };
    own = λ before after stepped own. drop_fresh_stands (Fits known id) before [] None w bytes left (own_written before own)
        after (books_of (Some (writer_entry w is_waiting)) left_files None) waiting (drops before after stepped);
  }

  -- meanwhile nothing is read of it
  pub dropping_passes : {step : View → View → Type 0} {left_files : List Leftover} (cell : Cell) →
      Leads known id volumes step (books id) (cells id) (books_of (Some (writer_entry w is_waiting)) left_files None) waiting → Passes stands id valid step cell
  dropping_passes cell leads = passes stands id valid leads (λ read allows. inl (subst (λ c. Allows c read) (sym grows) allows))

  -- both drafts are gone: the block is absent
  pub dropped_leads : (step : View → View → Type 0) → ((before after : View) → step before after → after ≡ both_dropped before w) →
      Leads known id volumes step (books id) (cells id) (books_of None [] None) absent
  dropped_leads step drops = record {
    fit = record { agrees = tt; placed = tt; left_placed = tt; clean = λ not. refl; fresh = tt };
    own = λ before after stepped own. subst (λ v. BlockStands (Fits known id) v (books_of None [] None) absent) (sym (drops before after stepped))
        (drop_fresh_stands (Fits known id) before [] None w bytes left (own_written before own) (both_dropped before w) (books_of None [] None) absent dropped);
  }
