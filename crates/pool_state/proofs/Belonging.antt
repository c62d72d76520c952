-- Writers and pairs that go on belonging to a pool.
use Rattle.std.proofs.Common.{◌≡◌, ℕ, List, [], Option, Some, None, IsSome, refl, option_map, sym, ◌∙◌, ap, subst}
use Rattle.std.proofs.lemmas.Bool.{false≢true}
use Rattle.std.proofs.lemmas.Option.{same_Some}
use Rattle.disk_model.specs.Worlds.{World, draft_at}
use Rattle.volume_layout.specs.Paths.{IsBlockId, IsStamp, rbw_block, rbw_meta}
use Rattle.pair_draft.specs.Writers.{Writer, Pair, HasPushed, HasSealed, Keeps}
use Rattle.map_model.specs.Stands.{BlockBooks}
use Rattle.map_model.specs.Tenures.{written_books}
use Rattle.pool_state.specs.Writers.{writer_at, WriterBelongs, WriterStands, PairStands}

pub writer_belongs : {told : Option (List World)} {books : ℕ → BlockBooks} {w : Writer} {bytes : List ℕ} → WriterStands told books w bytes → WriterBelongs books w
writer_belongs stands = record { valid = stands.valid; rev = stands.rev; block_number = stands.block_number; meta_number = stands.meta_number; is = stands.is }

-- the same replica's writer, later
pub belongs_kept : {books : ℕ → BlockBooks} {old new : Writer} → WriterBelongs books old → Keeps old new → WriterBelongs books new
belongs_kept {books} {old} {new} belongs keeps = record {
  valid = (subst IsBlockId (sym keeps.id) belongs.valid.0, subst IsStamp (sym keeps.stamp) belongs.valid.1);
  rev = belongs.rev;
  block_number = belongs.block_number;
  meta_number = belongs.meta_number;
  is = ap books keeps.id ∙ belongs.is
      ∙ ap (λ stamp. written_books None [] None (writer_at stamp old.vol old.reserved belongs.rev belongs.block_number belongs.meta_number)) (sym keeps.stamp)
      ∙ ap (λ vol. written_books None [] None (writer_at new.stamp vol old.reserved belongs.rev belongs.block_number belongs.meta_number)) (sym keeps.vol)
      ∙ ap (λ reserved. written_books None [] None (writer_at new.stamp new.vol reserved belongs.rev belongs.block_number belongs.meta_number)) (sym keeps.reserved);
}

-- it was given a piece
pub stands_pushed : {told : Option (List World)} {books : ℕ → BlockBooks} {old new : Writer} {before bytes : List ℕ} →
    WriterStands told books old before → Keeps old new → new.meta ≡ old.meta → HasPushed told new bytes → WriterStands told books new bytes
unfolding belongs_kept writer_belongs
stands_pushed {books = books} {old = old} {new = new} stands keeps same_meta pushed =
    let belongs : WriterBelongs books new = belongs_kept (writer_belongs stands) keeps in
    record {
      valid = belongs.valid;
      rev = belongs.rev;
      block_number = belongs.block_number;
      meta_number = belongs.meta_number;
      is = belongs.is;
      block = keeps.block ∙ stands.block
          ∙ ap (λ vol. draft_at stands.block_number vol (rbw_block old.id)) (sym keeps.vol)
          ∙ ap (λ id. draft_at stands.block_number new.vol (rbw_block id)) (sym keeps.id);
      meta = same_meta ∙ stands.meta
          ∙ ap (λ vol. Some (draft_at stands.meta_number vol (rbw_meta old.id old.stamp))) (sym keeps.vol)
          ∙ ap (λ id. Some (draft_at stands.meta_number new.vol (rbw_meta id old.stamp))) (sym keeps.id)
          ∙ ap (λ stamp. Some (draft_at stands.meta_number new.vol (rbw_meta new.id stamp))) (sym keeps.stamp);
      pushed = pushed;
    }

-- its two drafts were sealed
pub stands_sealed : {told : Option (List World)} {books : ℕ → BlockBooks} {w : Writer} {p : Pair} {bytes : List ℕ} → WriterStands told books w bytes →
    p.id ≡ w.id → p.stamp ≡ w.stamp → p.vol ≡ w.vol → p.block ≡ w.block → Some p.meta ≡ w.meta → HasSealed told p bytes → PairStands told books p bytes
stands_sealed {books = books} {w = w} {p = p} stands same_id same_stamp same_vol same_block same_meta sealed = record {
  valid = (subst IsBlockId (sym same_id) stands.valid.0, subst IsStamp (sym same_stamp) stands.valid.1);
  reserved = w.reserved;
  rev = stands.rev;
  block_number = stands.block_number;
  meta_number = stands.meta_number;
  is = ap books same_id ∙ stands.is
      ∙ ap (λ stamp. written_books None [] None (writer_at stamp w.vol w.reserved stands.rev stands.block_number stands.meta_number)) (sym same_stamp)
      ∙ ap (λ vol. written_books None [] None (writer_at p.stamp vol w.reserved stands.rev stands.block_number stands.meta_number)) (sym same_vol);
  block = same_block ∙ stands.block
      ∙ ap (λ vol. draft_at stands.block_number vol (rbw_block w.id)) (sym same_vol)
      ∙ ap (λ id. draft_at stands.block_number p.vol (rbw_block id)) (sym same_id);
  meta = same_Some _ _ (same_meta ∙ stands.meta)
      ∙ ap (λ vol. draft_at stands.meta_number vol (rbw_meta w.id w.stamp)) (sym same_vol)
      ∙ ap (λ id. draft_at stands.meta_number p.vol (rbw_meta id w.stamp)) (sym same_id)
      ∙ ap (λ stamp. draft_at stands.meta_number p.vol (rbw_meta p.id stamp)) (sym same_stamp);
  sealed = sealed;
}

-- the pool went on without touching the writer
pub stands_elsewhere : {told told' : Option (List World)} {books books' : ℕ → BlockBooks} {w : Writer} {bytes : List ℕ} → WriterStands told books w bytes →
    (IsSome told' → IsSome told) → books' w.id ≡ books w.id → WriterStands told' books' w bytes
stands_elsewhere stands honest same = record {
  valid = stands.valid;
  rev = stands.rev;
  block_number = stands.block_number;
  meta_number = stands.meta_number;
  is = same ∙ stands.is;
  block = stands.block;
  meta = stands.meta;
  pushed = record {
    len = stands.pushed.len;
    within = stands.pushed.within;
    kind = stands.pushed.kind;
    step = stands.pushed.step;
    given = stands.pushed.given;
    sums = stands.pushed.sums;
    summed = stands.pushed.summed;
    block_bytes = λ told. stands.pushed.block_bytes (honest told);
    meta_bytes = λ told. stands.pushed.meta_bytes (honest told);
  };
}

-- the writer of a start
pub started_stands : {told : Option (List World)} {books : ℕ → BlockBooks} (w : Writer) (id stamp vol need rev block meta : ℕ) → IsBlockId id → IsStamp stamp →
    w.id ≡ id → w.stamp ≡ stamp → w.vol ≡ vol → w.reserved ≡ need → books id ≡ written_books None [] None (writer_at stamp vol need rev block meta) →
    w.block ≡ draft_at block vol (rbw_block id) → w.meta ≡ Some (draft_at meta vol (rbw_meta id stamp)) → HasPushed told w [] → WriterStands told books w []
started_stands {books = books} w id stamp vol need rev block meta valid stamped same_id same_stamp same_vol same_reserved here at_block at_meta pushed = record {
  valid = (subst IsBlockId (sym same_id) valid, subst IsStamp (sym same_stamp) stamped);
  rev = rev;
  block_number = block;
  meta_number = meta;
  is = ap books same_id ∙ here
      ∙ ap (λ s. written_books None [] None (writer_at s vol need rev block meta)) (sym same_stamp)
      ∙ ap (λ v. written_books None [] None (writer_at w.stamp v need rev block meta)) (sym same_vol)
      ∙ ap (λ n. written_books None [] None (writer_at w.stamp w.vol n rev block meta)) (sym same_reserved);
  block = at_block
      ∙ ap (λ v. draft_at block v (rbw_block id)) (sym same_vol)
      ∙ ap (λ i. draft_at block w.vol (rbw_block i)) (sym same_id);
  meta = at_meta
      ∙ ap (λ v. Some (draft_at meta v (rbw_meta id stamp))) (sym same_vol)
      ∙ ap (λ i. Some (draft_at meta w.vol (rbw_meta i stamp))) (sym same_id)
      ∙ ap (λ s. Some (draft_at meta w.vol (rbw_meta w.id s))) (sym same_stamp);
  pushed = pushed;
}

-- what a new draft tells, where the disks do
abbrev pub no_bytes : List ℕ
no_bytes = []

pub told_empty : {X : Type 0} (told : Option X) → IsSome told → option_map (λ x. no_bytes) told ≡ Some no_bytes
told_empty None tells = absurd (false≢true tells)
told_empty (Some x) tells = refl
