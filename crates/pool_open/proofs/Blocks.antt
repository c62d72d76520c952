-- What clearing leaves of one block, and what is read of it.
use Rattle.std.proofs.Common.{◌≡◌, ◌⊎◌, ◌≤◌, inl, inr, ℕ, true, false, not, List, [], Option, Some, None, Contains, refl, ap, sym, ◌∙◌, subst, IsTrue, length, arith}
use Rattle.std.specs.Prelude.{is_some, unwrap_or, IsSome, IsSomeAnd, ◌==◌}
use Rattle.std.proofs.lemmas.Bool.{false≢true}
use Rattle.std.proofs.lemmas.Bool.Decides.{eqb_tells}
use Rattle.volume_layout.specs.Choice.{AtLeast}
use Rattle.volume_layout.specs.declared.block_file.BlockFile.{BlockFile}
use Rattle.volume_layout.specs.declared.block_file.BlockFile.TheVariants.{Block, Meta}
use Rattle.map_model.specs.Cells.{Replica}
use Rattle.map_model.specs.Copies.{Spot, own_spot, spot_rank, BlockFiles, IsOnlyMeta, IsCopy, IsAlone, AtLeastCopy, IsGreatestCopy, ReadsAs}
use Rattle.map_model.specs.Sound.{HasSoundCopies}
use Rattle.map_model.specs.Slots.{Slot, empty, holds, drafted, is_standing, bytes_in, View, files_in}
use Rattle.map_model.specs.Stands.{HasNoPair, IsFinalised}
use Rattle.map_model.proofs.SlotLemmas.{bytes-standing}
use Rattle.map_model.proofs.Spots.{spot_rank-injective}
use Rattle.map_model.proofs.OneReading.{IsCopy-unique, ReadsAs-unique}
use Rattle.map_model.proofs.Readings.{KeepsStamp-meta, KeepsStamp-only}
use Rattle.pool_survey.specs.declared.found.FoundFiles.{FoundFiles}
use Rattle.pool_survey.specs.Found.{has_block, metas_of}
use Rattle.pool_survey.specs.Directories.{is_looked_for}
use Rattle.pool_open.proofs.Placed.{first_in, copy_of, copy_found, found_copy, copy_meta, no_copy_meta}
use Rattle.pool_open.proofs.Planned.{IsFound, goes}
use Rattle.pool_open.proofs.Slots.{replica_of, no_pair_reads, no_pair_alone}

-- the settled bytes of a slot
abbrev pub slot_bytes : Slot → List ℕ
slot_bytes slot = unwrap_or (bytes_in slot) []

pub held_slot : (slot : Slot) → IsTrue (is_standing slot) → ((number : ℕ) → slot ≡ drafted number → ⊥) → slot ≡ holds (slot_bytes slot)
held_slot empty there not_drafted = absurd (false≢true there)
held_slot (holds bytes) there not_drafted = refl
held_slot (drafted number) there not_drafted = absurd (not_drafted number refl)

-- the files of a block, as they were found on the volumes
pub record IsShown (found : ℕ → Option FoundFiles) (was : View) : Type 0 where
  pub stands : (vol : ℕ) (file : BlockFile) → IsFound (found vol) file → IsTrue (is_standing (was vol file))
  pub stood : (vol : ℕ) (file : BlockFile) → is_looked_for file ≡ true → IsTrue (is_standing (was vol file)) → IsFound (found vol) file
  pub settled : (vol : ℕ) (file : BlockFile) (number : ℕ) → IsFinalised file → was vol file ≡ drafted number → ⊥
  pub few : (vol : ℕ) → has_block (found vol) ≡ true → length (metas_of (found vol)) ≤ 1

-- and as they are while they are cleared: each is as it was or gone, and what doesn't go is as it was
pub record Partly (kept : Option ℕ) (found : ℕ → Option FoundFiles) (was now : View) : Type 0 where
  pub alike : (vol : ℕ) (file : BlockFile) → (now vol file ≡ was vol file) ⊎ (now vol file ≡ empty)
  pub stays : (vol : ℕ) (file : BlockFile) → goes kept (found vol) vol file ≡ false → now vol file ≡ was vol file

pub partly_none : (kept : Option ℕ) (found : ℕ → Option FoundFiles) (was : View) → Partly kept found was was
partly_none kept found was = record { alike = λ vol file. inl refl; stays = λ vol file is. refl }

-- the length of the block file on a volume
abbrev pub len_on : View → ℕ → ℕ
len_on was vol = length (slot_bytes (was vol Block))

-- the copy on this volume, of this stamp, is the greatest that was found
pub record KeepsCopy (found : ℕ → Option FoundFiles) (was : View) (own stamp : ℕ) : Type 0 where
  pub here : copy_of (found own) ≡ Some stamp
  pub greatest : (vol other : ℕ) → copy_of (found vol) ≡ Some other → AtLeast stamp (len_on was own) own other (len_on was vol) vol

-- no copy was found
abbrev pub NoCopy : (ℕ → Option FoundFiles) → Type 0
NoCopy found = (vol : ℕ) → copy_of (found vol) ≡ None

-- two copies that are the greatest are one
pub greatest_one : (files : BlockFiles) (spot : Spot) (a : Replica) (other : Spot) (b : Replica) → IsGreatestCopy files spot a → IsGreatestCopy files other b → (spot ≡ other) × (a ≡ b)
greatest_one files spot a other b first second =
    let up : AtLeastCopy spot a other b = first.greatest other b second.copy in
    let down : AtLeastCopy other b spot a = second.greatest spot a first.copy in
    let ranks : spot_rank spot ≡ spot_rank other = same_rank spot a other b up down in
    let same : spot ≡ other = spot_rank-injective spot other ranks in
    let P : Spot → Type 0 = λ s. IsCopy files s a in
    (same, IsCopy-unique files other a b (subst P same first.copy) second.copy)
  where
    same_rank : (spot : Spot) (a : Replica) (other : Spot) (b : Replica) → AtLeastCopy spot a other b → AtLeastCopy other b spot a → spot_rank spot ≡ spot_rank other
    same_rank spot a other b up down = grind arith

module _ (kept : Option ℕ) (found : ℕ → Option FoundFiles) (was now : View) (shown : IsShown found was) (partly : Partly kept found was now) where
  pub was_standing : (vol : ℕ) (file : BlockFile) → IsTrue (is_standing (now vol file)) → IsTrue (is_standing (was vol file))
  was_standing vol file there = elim (partly.alike vol file) [
    | inl same ↦ sym (ap is_standing same) ∙ there
    | inr gone ↦ absurd (false≢true (sym (ap is_standing gone) ∙ there))
  ]

  pub same_standing : (vol : ℕ) (file : BlockFile) → IsTrue (is_standing (now vol file)) → now vol file ≡ was vol file
  same_standing vol file there = elim (partly.alike vol file) [
    | inl same ↦ same
    | inr gone ↦ absurd (false≢true (sym (ap is_standing gone) ∙ there))
  ]

  pub now_settled : (vol : ℕ) (file : BlockFile) (number : ℕ) → IsFinalised file → now vol file ≡ drafted number → ⊥
  now_settled vol file number is drafts =
      let there : IsTrue (is_standing (now vol file)) = ap is_standing drafts in
      shown.settled vol file number is (sym (same_standing vol file there) ∙ drafts)

  pub now_found : (vol : ℕ) (file : BlockFile) → is_looked_for file ≡ true → IsTrue (is_standing (now vol file)) → IsFound (found vol) file
  now_found vol file looked there = shown.stood vol file looked (was_standing vol file there)

  -- without a copy no pair stands
  pub lone_no_pair : NoCopy found → HasNoPair now
  lone_no_pair none vol stamp block meta =
      no_copy_meta (found vol) stamp (shown.few vol) (none vol) (now_found vol Block refl block) (now_found vol (Meta stamp) refl meta)

  -- a copy that stands was found
  pub copy_stands : (spot : Spot) (replica : Replica) → IsCopy (files_in now) spot replica →
      (copy_of (found spot.vol) ≡ Some replica.stamp) × (replica.bytes ≡ slot_bytes (was spot.vol Block))
  copy_stands spot replica copy =
      let block = bytes-standing (now spot.vol Block) (ap is_some copy.block) in
      let meta = bytes-standing (now spot.vol (Meta replica.stamp)) (KeepsStamp-meta (files_in now) spot replica.stamp copy.stamp) in (
        found_copy (found spot.vol) replica.stamp (shown.few spot.vol) (now_found spot.vol Block refl block) (now_found spot.vol (Meta replica.stamp) refl meta),
        sym (ap (λ o. unwrap_or o []) copy.block) ∙ ap slot_bytes (same_standing spot.vol Block block),
      )

  module _ (own stamp : ℕ) (at : kept ≡ Some own) (keeps : KeepsCopy found was own stamp) where
    own_stays : (file : BlockFile) → goes (Some own) (found own) own file ≡ false → now own file ≡ was own file
    own_stays file is = partly.stays own file (subst (λ k. goes k (found own) own file ≡ false) (sym at) is)

    not_self : not (own == own) ≡ false
    not_self = elim (eqb_tells own own) [ inl same ↦ ap not same.0 | inr apart ↦ absurd (apart.1 refl) ]

    has_meta : Contains (metas_of (found own)) stamp
    has_meta =
        let copy = copy_found (found own) stamp keeps.here in
        subst (λ (ms : List ℕ). Contains ms stamp) (sym copy.2) (first_in stamp copy.1)

    pub own_block : now own Block ≡ holds (slot_bytes (was own Block))
    own_block = own_stays Block not_self
        ∙ held_slot (was own Block) (shown.stands own Block (copy_found (found own) stamp keeps.here).0) (λ number. shown.settled own Block number tt)

    pub own_meta : now own (Meta stamp) ≡ holds (slot_bytes (was own (Meta stamp)))
    own_meta = own_stays (Meta stamp) not_self
        ∙ held_slot (was own (Meta stamp)) (shown.stands own (Meta stamp) has_meta) (λ number. shown.settled own (Meta stamp) number tt)

    pub only_here : IsOnlyMeta (files_in now) (own_spot own) stamp
    only_here = record {
      stands = ap (λ s. is_some (bytes_in s)) own_meta;
      only = λ other has. copy_meta (found own) stamp other (shown.few own) keeps.here (now_found own (Meta other) refl (bytes-standing (now own (Meta other)) has));
    }

    -- THE KEPT COPY IS WHAT IS READ
    pub keeps_greatest : IsGreatestCopy (files_in now) (own_spot own) (replica_of stamp (slot_bytes (was own Block)))
    keeps_greatest = record {
      copy = record { block = ap bytes_in own_block; stamp = KeepsStamp-only (files_in now) (own_spot own) stamp only_here };
      greatest = λ other_spot other copy.
          let stands = copy_stands other_spot other copy in
          subst (λ (b : List ℕ). AtLeast stamp (len_on was own) own other.stamp (length b) other_spot.vol) (sym stands.1) (keeps.greatest other_spot.vol other.stamp stands.0);
    }

-- ---- what is read

-- what an opening makes of a block: its greatest copy, or none
pub data IsMade (kept : Option ℕ) (found : ℕ → Option FoundFiles) (was : View) : Type 0 where
  made_copy : (own stamp : ℕ) → kept ≡ Some own → KeepsCopy found was own stamp → IsMade kept found was
  made_none : kept ≡ None → NoCopy found → IsMade kept found was

module _ (kept : Option ℕ) (found : ℕ → Option FoundFiles) (was now : View) (shown : IsShown found was) (partly : Partly kept found was now) where
  -- what was read is read
  pub reads_on : IsMade kept found was → (replica : Option Replica) → ReadsAs (files_in was) replica → ReadsAs (files_in now) replica
  reads_on (made_copy own stamp at keeps) replica reads =
      let r : Option Replica = Some (replica_of stamp (slot_bytes (was own Block))) in
      let before : ReadsAs (files_in was) r = (own_spot own, keeps_greatest kept found was was shown (partly_none kept found was) own stamp at keeps) in
      let after : ReadsAs (files_in now) r = (own_spot own, keeps_greatest kept found was now shown partly own stamp at keeps) in
      subst (λ (o : Option Replica). ReadsAs (files_in now) o) (ReadsAs-unique (files_in was) r replica before reads) after
  reads_on (made_none at none) replica reads =
      let before : ReadsAs (files_in was) None = no_pair_reads was (lone_no_pair kept found was was shown (partly_none kept found was) none) in
      let after : ReadsAs (files_in now) None = no_pair_reads now (lone_no_pair kept found was now shown partly none) in
      subst (λ (o : Option Replica). ReadsAs (files_in now) o) (ReadsAs-unique (files_in was) None replica before reads) after

  -- copies that matched their metas still do
  pub sound_on : (M : List ℕ → Replica → Type 0) → IsMade kept found was → HasSoundCopies M (files_in was) → HasSoundCopies M (files_in now)
  sound_on M (made_copy own stamp at keeps) sound spot replica greatest =
      let r : Replica = replica_of stamp (slot_bytes (was own Block)) in
      let own_was : IsGreatestCopy (files_in was) (own_spot own) r = keeps_greatest kept found was was shown (partly_none kept found was) own stamp at keeps in
      let own_now : IsGreatestCopy (files_in now) (own_spot own) r = keeps_greatest kept found was now shown partly own stamp at keeps in
      let one = greatest_one (files_in now) (own_spot own) r spot replica own_now greatest in
      let matched : IsSomeAnd (bytes_in (was own (Meta stamp))) (λ content. M content r) = sound (own_spot own) r own_was in
      let same : was own (Meta stamp) ≡ now own (Meta stamp) =
      own_meta kept found was was shown (partly_none kept found was) own stamp at keeps ∙ sym (own_meta kept found was now shown partly own stamp at keeps) in
      let still : IsSomeAnd (bytes_in (now own (Meta stamp))) (λ content. M content r) =
      subst (λ (slot : Slot). IsSomeAnd (bytes_in slot) (λ content. M content r)) same matched in
      let P : Spot → Replica → Type 0 = λ s x. IsSomeAnd (bytes_in (now s.vol (Meta x.stamp))) (λ content. M content x) in
      let here : P spot r = subst (λ (s : Spot). P s r) one.0 still in
      subst (λ (x : Replica). P spot x) one.1 here
  sound_on M (made_none at none) sound spot replica greatest =
      let after : ReadsAs (files_in now) None = no_pair_reads now (lone_no_pair kept found was now shown partly none) in
      absurd (after spot replica greatest.copy)

  -- and where each copy was alone, it is
  pub alone_on : IsMade kept found was → ((spot : Spot) (replica : Replica) → IsCopy (files_in was) spot replica → IsAlone (files_in was) spot) →
      (spot : Spot) (replica : Replica) → IsCopy (files_in now) spot replica → IsAlone (files_in now) spot
  alone_on (made_none at none) whole spot replica copy = no_pair_alone now (lone_no_pair kept found was now shown partly none) spot replica copy
  alone_on (made_copy own stamp at keeps) whole spot replica copy =
      let r : Replica = replica_of stamp (slot_bytes (was own Block)) in
      let own_was : IsGreatestCopy (files_in was) (own_spot own) r = keeps_greatest kept found was was shown (partly_none kept found was) own stamp at keeps in
      let alone : IsAlone (files_in was) (own_spot own) = whole (own_spot own) r own_was.copy in
      let back : (vol : ℕ) (file : BlockFile) → IsSome (bytes_in (now vol file)) → IsSome (bytes_in (was vol file)) =
      λ vol file some. sym (ap (λ s. is_some (bytes_in s)) (same_standing kept found was now shown partly vol file (bytes-standing (now vol file) some))) ∙ some in
      let here : spot ≡ own_spot own = alone.no_block spot (back spot.vol Block (ap is_some copy.block)) in
      let P : Spot → Type 0 = λ s. IsOnlyMeta (files_in now) s stamp in
      record {
        one_meta = (stamp, subst P (sym here) (only_here kept found was now shown partly own stamp at keeps));
        no_block = λ other has. alone.no_block other (back other.vol Block has) ∙ sym here;
        no_meta = λ other s has. alone.no_meta other s (back other.vol (Meta s) has) ∙ sym here;
      }

  -- where all was cleared, what stands doesn't go
  module _ (left : (vol : ℕ) (file : BlockFile) → IsTrue (is_standing (now vol file)) → goes kept (found vol) vol file ≡ false) where
    pub left_on : (own : ℕ) → kept ≡ Some own → (vol : ℕ) (file : BlockFile) → IsTrue (is_standing (now vol file)) → goes (Some own) (found vol) vol file ≡ false
    left_on own at vol file there = subst (λ k. goes k (found vol) vol file ≡ false) at (left vol file there)

    pub at_own : (own vol : ℕ) → not (vol == own) ≡ false → vol ≡ own
    at_own own vol is = elim (eqb_tells vol own) [ inl same ↦ same.1 | inr apart ↦ absurd (false≢true (sym is ∙ ap not apart.0)) ]

    pub alone_left : IsMade kept found was → (spot : Spot) (replica : Replica) → IsCopy (files_in now) spot replica → IsAlone (files_in now) spot
    alone_left (made_none at none) spot replica copy = no_pair_alone now (lone_no_pair kept found was now shown partly none) spot replica copy
    alone_left (made_copy own stamp at keeps) spot replica copy =
        let block_here : (s : Spot) → IsSome (bytes_in (now s.vol Block)) → s ≡ own_spot own =
        λ s has. ap own_spot (at_own own s.vol (left_on own at s.vol Block (bytes-standing (now s.vol Block) has))) in
        let here : spot ≡ own_spot own = block_here spot (ap is_some copy.block) in
        let P : Spot → Type 0 = λ s. IsOnlyMeta (files_in now) s stamp in
        record {
          one_meta = (stamp, subst P (sym here) (only_here kept found was now shown partly own stamp at keeps));
          no_block = λ other has. block_here other has ∙ sym here;
          no_meta = λ other s has. ap own_spot (at_own own other.vol (left_on own at other.vol (Meta s) (bytes-standing (now other.vol (Meta s)) has))) ∙ sym here;
        }
