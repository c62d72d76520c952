-- What the start of a read lends.
use Rattle.std.proofs.Common.{◌≡◌, ◌≤◌, ◌<◌, inl, inr, ◌^◌, ℕ, Bool, true, false, if◌then◌else◌, List, length, Option, None, Some, refl, sym, ◌∙◌, subst, arith, IsSome, IsTrue, IfSome, IfNone}
use Rattle.disk_model.specs.Worlds.{World}
use Rattle.disk_model.specs.Files.{Files}
use Rattle.disk_model.specs.Told.{IsWorldOf, CanLeave, PicksOne, StandsBeforeOrAfter, NoDraftAt}
use Rattle.disk_model.proofs.Laws.{told_list, each_after_failed}
use Rattle.volume_layout.specs.Paths.{IsBlockId}
use Rattle.map_model.specs.World.{DraftsAside}
use Rattle.map_model.specs.Cells.{Replica, Cell, Cells, absent, final, growing, unsure, waiting}
use Rattle.map_model.specs.Sound.{Knowledge, Fits}
use Rattle.volume_layout.specs.declared.block_file.BlockFile.{BlockFile}
use Rattle.volume_layout.specs.declared.block_file.BlockFile.TheVariants.{Block, Meta}
use Rattle.volume_layout.specs.BlockFiles.{path_of, is_file, is_aside_file}
use Rattle.map_model.specs.Slots.{Slot, empty, holds, slot_at, view_of}
use Rattle.map_model.specs.Stands.{Agrees, Entry, Leftover, WritesOver, IsInDoubt, is_final, is_waiting, PairStands, BlockBooks, BlockStands}
use Rattle.map_model.specs.Tenures.{books_of}
use Rattle.map_model.proofs.Aside.{aside_no_draft}
use Rattle.map_model.proofs.Bridge.{view_holds}
use Rattle.pool_state.specs.Stands.{BooksFit, PoolStands}
use Rattle.map_model.specs.Laws as model
use Rattle.map_model.proofs.LawProofs.{stands_allows}
use Rattle.map_model.proofs.Soundness.{stands_is_sound}
use Rattle.pool_state.proofs.Whole.{leaves_whole}
use Rattle.pool_state.proofs.Showing.{Quiet}
use Rattle.disk_model.specs.Causes.{Rose}
use Rattle.disk_model.specs.Marks.{Mark, IsLater, GivenBetween}
use Rattle.pool_state.specs.Readers.{reader_bytes, IsMetaOf, Lends, file_of, LooksForTwo}

-- a call that only looks leaves what stands
pub stands_looked : (told told' : Option (List World)) (volumes volumes' : ℕ) (books : ℕ → BlockBooks) (known : Knowledge) (cells : Cells) →
    PoolStands told volumes books known cells → StandsBeforeOrAfter (λ w. w) told told' → volumes' ≡ volumes → PoolStands told' volumes' books known cells
stands_looked told told' volumes volumes' books known cells stands call same = record {
  some_volume = subst (λ n. 1 ≤ n) (sym same) stands.some_volume;
  fit = subst (λ n. (id : ℕ) → IsBlockId id → BooksFit n (books id) (cells id)) (sym same) stands.fit;
  blocks = each_after_failed (λ world. (id : ℕ) → IsBlockId id → BlockStands (Fits known id) (view_of world id) (books id) (cells id))
      (λ world. (id : ℕ) → IsBlockId id → BlockStands (Fits known id) (view_of world id) (books id) (cells id))
      call stands.blocks (λ world is has. has) (λ world is has. has);
  aside = each_after_failed DraftsAside DraftsAside call stands.aside (λ world is has. has) (λ world is has. has);
}

-- and shows nothing new
pub looked_images : {told' : Option (List World)} {volumes' : ℕ} {books : ℕ → BlockBooks} {known : Knowledge} {cells : Cells} →
    PoolStands told' volumes' books known cells → (image : Files) → CanLeave told' image → Quiet known cells image
looked_images {told' = told'} {books = books} {known = known} {cells = cells} stands image leaves =
    let whole : model.PoolStands (Fits known) told' books cells =
    λ world is. record { blocks = stands.blocks world is; aside = stands.aside world is } in
    record {
      allowed = stands_allows (Fits known) told' books cells image whole leaves;
      matching = stands_is_sound (Fits known) told' books cells image whole leaves;
      whole = leaves_whole stands image leaves;
    }

-- no draft stands at a finalised file
pub lend_free : {told : Option (List World)} {volumes : ℕ} {books : ℕ → BlockBooks} {known : Knowledge} {cells : Cells} → PoolStands told volumes books known cells →
    (id vol : ℕ) (f : BlockFile) → is_aside_file f ≡ false → NoDraftAt told vol (path_of id f)
lend_free stands id vol f apart world is = aside_no_draft id vol f world apart (stands.aside world is)

-- the entry of a replica is that of a final cell
pub final_cell : (cell : Cell) (e : Entry) → e.state ≡ is_final → Agrees (Some e) cell → (replica : Replica) × (cell ≡ final replica) × (e.stamp ≡ replica.stamp) × (e.len ≡ length replica.bytes)
final_cell absent e is agrees = absurd agrees
final_cell (final replica) e is agrees = (replica, refl, agrees.1, agrees.2)
final_cell (growing stamp base bytes left) e is agrees = absurd (subst (λ st. WritesOver st base stamp) is agrees.2)
final_cell (unsure x y cut) e is agrees = absurd (subst (λ st. IsInDoubt st) is agrees)
final_cell waiting e is agrees = let bad : is_final ≡ is_waiting = sym is ∙ agrees in absurd cc

named_when : (b : Bool) (slot : Slot) (content : List ℕ) → (if b then slot else empty) ≡ holds content → b ≡ true
named_when true slot content is = refl
named_when false slot content is = absurd cc

-- a file that a view shows is one
shown_file : (world : World) (id vol : ℕ) (f : BlockFile) (content : List ℕ) → view_of world id vol f ≡ holds content → IsTrue (is_file f)
unfolding view_of
shown_file world id vol f content is = named_when (is_file f) (slot_at world vol (path_of id f)) content is

-- a file that stands has a reader, which tells its bytes
told_file : {R : Type 0} (bytes : R → Option (List ℕ)) (lent : Option R) (content : List ℕ) → file_of bytes lent ≡ Some content → reader_bytes bytes lent ≡ Some content
told_file bytes None content is = absurd cc
told_file bytes (Some reader) content is = is

module _ {told : Option (List World)} {volumes : ℕ} {books : ℕ → BlockBooks} {known : Knowledge} {cells : Cells} (stands : PoolStands told volumes books known cells)
    (id : ℕ) (valid : IsBlockId id) (e : Entry) (left : List Leftover) (has : books id ≡ books_of (Some e) left None) where
  agrees_here : Agrees (Some e) (cells id)
  agrees_here = subst (λ (b : BlockBooks). Agrees b.entry (cells id)) has (stands.fit id valid).agrees

  -- in each world the replica's pair stands
  pair_stands : (replica : Replica) → cells id ≡ final replica → (world : World) → IsWorldOf told world → PairStands (Fits known id) (view_of world id) e.vol replica
  pair_stands replica cell_is world there =
      let own : BlockStands (Fits known id) (view_of world id) (books_of (Some e) left None) (final replica) =
      subst (BlockStands (Fits known id) (view_of world id) (books_of (Some e) left None)) cell_is
      (subst (λ b. BlockStands (Fits known id) (view_of world id) b (cells id)) has (stands.blocks world there id valid)) in
      own.content.0

  -- so the reader of the block file tells the replica's bytes
  lent_bytes : {R : Type 0} (told' : Option (List World)) (bytes : R → Option (List ℕ)) (lent : Option R) (replica : Replica) → cells id ≡ final replica →
      PicksOne (λ w. w.settled e.vol (path_of id Block) ≡ file_of bytes lent) (λ w. w) told told' → IsSome told → reader_bytes bytes lent ≡ Some replica.bytes
  lent_bytes told' bytes lent replica cell_is call tells =
      let list = told_list told tells in
      let picked = call.picked list.0 list.1 in
      let pair = pair_stands replica cell_is picked.0 (list.0, list.1, picked.1) in
      told_file bytes lent replica.bytes (sym picked.2 ∙ (view_holds picked.0 id e.vol Block refl replica.bytes pair.block_file).file)

  -- and that of the meta file the bytes that match them
  lent_meta : {R : Type 0} (told' : Option (List World)) (bytes : R → Option (List ℕ)) (lent : Option R) (replica : Replica) → cells id ≡ final replica → e.stamp ≡ replica.stamp →
      PicksOne (λ w. w.settled e.vol (path_of id (Meta e.stamp)) ≡ file_of bytes lent) (λ w. w) told told' →
      ((all : List ℕ) → reader_bytes bytes lent ≡ Some all → length all < 2 ^ 64) → IsSome told → IsMetaOf known id (reader_bytes bytes lent) replica
  lent_meta told' bytes lent replica cell_is stamp_is call limit tells =
      let list = told_list told tells in
      let picked = call.picked list.0 list.1 in
      let pair = pair_stands replica cell_is picked.0 (list.0, list.1, picked.1) in
      let shown : view_of picked.0 id e.vol (Meta e.stamp) ≡ holds pair.content =
      subst (λ s. view_of picked.0 id e.vol (Meta s) ≡ holds pair.content) (sym stamp_is) pair.meta_file in
      let tells_it = told_file bytes lent pair.content
      (sym picked.2 ∙ (view_holds picked.0 id e.vol (Meta e.stamp) (shown_file picked.0 id e.vol (Meta e.stamp) pair.content shown) pair.content shown).file) in
      record { content = pair.content; is = tells_it; few = limit pair.content tells_it; matches = pair.matches }

-- WHAT IS LENT: the block file, and then the meta file
pub lends : {R : Type 0} {told told' told'' : Option (List World)} {volumes volumes' : ℕ} {books : ℕ → BlockBooks} {known : Knowledge} {cells : Cells} →
    PoolStands told volumes books known cells → PoolStands told' volumes' books known cells →
    (id : ℕ) → IsBlockId id → (e : Entry) (left : List Leftover) → books id ≡ books_of (Some e) left None → e.state ≡ is_final → (bytes : R → Option (List ℕ)) (lent lent' : Option R) →
    PicksOne (λ w. w.settled e.vol (path_of id Block) ≡ file_of bytes lent) (λ w. w) told told' →
    PicksOne (λ w. w.settled e.vol (path_of id (Meta e.stamp)) ≡ file_of bytes lent') (λ w. w) told' told'' →
    ((all : List ℕ) → reader_bytes bytes lent' ≡ Some all → length all < 2 ^ 64) →
    Lends known id told (cells id) e.stamp e.len (reader_bytes bytes lent) (reader_bytes bytes lent')
lends {told' = told'} {told'' = told''} {cells = cells} stands stands' id valid e left has is bytes lent lent' first second limit =
    let cell = final_cell (cells id) e is (agrees_here stands id valid e left has) in
    record {
      replica = cell.0;
      cell_is = cell.1;
      stamp_is = cell.2;
      len_is = cell.3;
      bytes_are = lent_bytes stands id valid e left has told' bytes lent cell.0 cell.1 first;
      meta_is = λ tells. lent_meta stands' id valid e left has told'' bytes lent' cell.0 cell.1 cell.2 second limit (first.honest.0 tells);
    }

-- two files that were looked for, one after the other
pub looked_for_two : {R : Type 0} (number : R → ℕ) (first mid last : Mark) → IsLater first mid → IsLater mid last → (lent lent' : Option R) →
    IfNone lent (Rose first.absences mid.absences) → IfSome lent (λ reader. GivenBetween first.next_number mid.next_number (number reader)) →
    IfNone lent' (Rose mid.absences last.absences) → IfSome lent' (λ reader. GivenBetween mid.next_number last.next_number (number reader)) → LooksForTwo first last
looked_for_two number first mid last one two None lent' lost given lost' given' = inl (omega (arith, lost, two.absences))
looked_for_two number first mid last one two (Some block) None lost given lost' given' = inl (omega (arith, lost', one.absences))
looked_for_two number first mid last one two (Some block) (Some meta) lost given lost' given' =
    inr (omega (arith, given.since, given.before, given'.since, given'.before))
