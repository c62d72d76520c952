-- Where one state of the disk stands for a block's cell, each copy that is read matches its meta file.
use Rattle.std.proofs.Common.{◌≡◌, ◌≢◌, inl, inr, ℕ, List, Option, Some, None, refl, ap, sym, ◌∙◌, subst}
use Rattle.std.specs.Prelude.{IsTrue, IsSome, IsSomeAnd, is_some}
use Rattle.std.proofs.lemmas.Bool.{cases_eq, false≢true}
use Rattle.std.proofs.lemmas.Option.{same_Some}
use Rattle.disk_model.specs.Worlds.{World}
use Rattle.map_model.specs.Cells.{Replica, Cell, absent, final, growing, unsure, waiting}
use Rattle.map_model.specs.Copies.{Spot, BlockFiles, IsCopy}
use Rattle.map_model.specs.Sound.{HasSoundCopies}
use Rattle.map_model.specs.Laws.{BlockIsSound, StandsIsSound}
use Rattle.volume_layout.specs.declared.block_file.BlockFile.TheVariants.{Block, Meta}
use Rattle.map_model.specs.Slots.{Slot, empty, holds, drafted, is_standing, bytes_in, View, files_in, view_of}
use Rattle.map_model.specs.Stands.{Entry, Leftover, Ticket, BlockStands}
use Rattle.map_model.specs.Tenures.{books_of}
use Rattle.map_model.proofs.Owned.{own_file, written_left, written_fresh}
use Rattle.map_model.proofs.Readings.{KeepsStamp-meta}
use Rattle.map_model.proofs.SlotLemmas.{bytes-standing}
use Rattle.map_model.proofs.KeyLaw.{OnlyPair, final_pair, growing_pair}
use Rattle.map_model.proofs.Bridge.{image_files}

-- a copy, in the slots of its volume
record CopyAt (view : View) (vol : ℕ) (replica : Replica) : Type 0 where
  pub block_is : bytes_in (view vol Block) ≡ Some replica.bytes
  pub block_there : IsTrue (is_standing (view vol Block))
  pub meta_there : IsTrue (is_standing (view vol (Meta replica.stamp)))
  pub has_meta : IsSome (bytes_in (view vol (Meta replica.stamp)))

copy_at : (view : View) (spot : Spot) (replica : Replica) → IsCopy (files_in view) spot replica → CopyAt view spot.vol replica
copy_at view spot replica copy =
    let has = KeepsStamp-meta (files_in view) spot replica.stamp copy.stamp in
    record {
      block_is = copy.block;
      block_there = bytes-standing (view spot.vol Block) (ap is_some copy.block);
      meta_there = bytes-standing (view spot.vol (Meta replica.stamp)) has;
      has_meta = has;
    }

-- what is said of the settled bytes of a slot
in_slot : (slot : Slot) (P : List ℕ → Type 0) → IsSome (bytes_in slot) → ((content : List ℕ) → slot ≡ holds content → P content) → IsSomeAnd (bytes_in slot) P
in_slot empty P has say = absurd (false≢true has)
in_slot (holds bytes) P has say = say bytes refl
in_slot (drafted number) P has say = absurd (false≢true has)

same_holds : (a b : List ℕ) → holds a ≡ holds b → a ≡ b
same_holds a b same = same_Some a b (ap bytes_in same)

-- a copy of a pair that stands alone, but for equal ones: its meta holds the same as the pair's
alike : (M : List ℕ → Replica → Type 0) (view : View) (vol v : ℕ) (replica other : Replica) (content : List ℕ) →
    OnlyPair view vol replica → view vol (Meta replica.stamp) ≡ holds content → M content replica → CopyAt view v other →
    (v ≢ vol → view v (Meta other.stamp) ≡ view vol (Meta other.stamp)) →
    IsSomeAnd (bytes_in (view v (Meta other.stamp))) (λ found. M found other)
alike M view vol v replica other content pair meta_file matches copy equal =
    let stamps : other.stamp ≡ replica.stamp = pair.only_meta v other.stamp copy.meta_there in
    let here : view vol (Meta other.stamp) ≡ holds content = subst (λ s. view vol (Meta s) ≡ holds content) (sym stamps) meta_file in
    in_slot (view v (Meta other.stamp)) (λ found. M found other) copy.has_meta (λ found is.
    elim (cases_eq v vol) [
      | inl same ↦
          let at : view v (Meta other.stamp) ≡ view vol (Meta other.stamp) = ap (λ n. view n (Meta other.stamp)) same in
          let contents : found ≡ content = same_holds found content (sym is ∙ at ∙ here) in
          let bytes : other.bytes ≡ replica.bytes = same_Some other.bytes replica.bytes (sym copy.block_is ∙ ap (λ n. bytes_in (view n Block)) same ∙ ap bytes_in pair.block_file) in
          subst (λ b. M found (record { stamp = other.stamp; bytes = b })) (sym bytes) (subst (λ s. M found (record { stamp = s; bytes = replica.bytes })) (sym stamps) (subst (λ c. M c replica) (sym contents) matches))
      | inr apart ↦
          let contents : found ≡ content = same_holds found content (sym is ∙ equal apart ∙ here) in
          let bytes : other.bytes ≡ replica.bytes = same_Some other.bytes replica.bytes (sym copy.block_is ∙ ap bytes_in (pair.other_block v apart copy.block_there)) in
          subst (λ b. M found (record { stamp = other.stamp; bytes = b })) (sym bytes) (subst (λ s. M found (record { stamp = s; bytes = replica.bytes })) (sym stamps) (subst (λ c. M c replica) (sym contents) matches))
    ])

copies_match : (M : List ℕ → Replica → Type 0) (view : View) (entry : Option Entry) (leftovers : List Leftover) (ticket : Option Ticket) (cell : Cell) →
    BlockStands M view (books_of entry leftovers ticket) cell → (spot : Spot) (replica : Replica) → IsCopy (files_in view) spot replica →
    IsSomeAnd ((files_in view).meta spot replica.stamp) (λ found. M found replica)
copies_match M view None leftovers ticket absent stands spot replica copy =
    let at : CopyAt view spot.vol replica = copy_at view spot replica copy in
    absurd (own_file M view (books_of None leftovers ticket) absent stands spot.vol Block tt at.block_there)
copies_match M view None leftovers ticket (final r) stands spot replica copy = absurd stands.agrees
copies_match M view None leftovers ticket (growing stamp base bytes left) stands spot replica copy = absurd stands.agrees
copies_match M view None leftovers ticket (unsure x y cut) stands spot replica copy = absurd stands.agrees
copies_match M view None leftovers ticket waiting stands spot replica copy = absurd stands.agrees
copies_match M view (Some e) leftovers ticket absent stands spot replica copy = absurd stands.agrees
copies_match M view (Some e) leftovers ticket (final r) stands spot replica copy =
    let at : CopyAt view spot.vol replica = copy_at view spot replica copy in
    let pair = final_pair M view e leftovers ticket r stands in
    alike M view e.vol spot.vol r replica stands.content.0.content pair stands.content.0.meta_file stands.content.0.matches at
    (λ apart. elim (own_file M view (books_of (Some e) leftovers ticket) (final r) stands spot.vol (Meta replica.stamp) tt at.meta_there) [
      | inl names ↦ absurd (apart (sym names.0))
      | inr listed ↦ (stands.content.1 spot.vol (Meta replica.stamp) tt listed.1 at.meta_there).1
    ])
copies_match M view (Some e) leftovers ticket (growing stamp None bytes left) stands spot replica copy =
    let at : CopyAt view spot.vol replica = copy_at view spot replica copy in
    elim (own_file M view (books_of (Some e) leftovers ticket) (growing stamp None bytes left) stands spot.vol Block tt at.block_there) [
      | inl names ↦ absurd (written_fresh e.state stamp e.stamp Block stands.agrees.2 tt names.1)
      | inr listed ↦ absurd (written_left e.state None stamp stands.agrees.2 listed.0)
    ]
copies_match M view (Some e) leftovers ticket (growing stamp (Some base) bytes left) stands spot replica copy =
    let at : CopyAt view spot.vol replica = copy_at view spot replica copy in
    let pair = growing_pair M view e leftovers ticket stamp base bytes left stands in
    alike M view e.vol spot.vol base replica stands.content.content pair stands.content.meta_file stands.content.matches at
    (λ apart. elim (own_file M view (books_of (Some e) leftovers ticket) (growing stamp (Some base) bytes left) stands spot.vol (Meta replica.stamp) tt at.meta_there) [
      | inl names ↦ absurd (apart (sym names.0))
      | inr listed ↦ absurd (written_left e.state (Some base) stamp stands.agrees.2 listed.0)
    ])
copies_match M view (Some e) leftovers ticket (unsure x y cut) stands spot replica copy =
    let at : CopyAt view spot.vol replica = copy_at view spot replica copy in
    in_slot (view spot.vol (Meta replica.stamp)) (λ found. M found replica) at.has_meta
    (λ found is. stands.content.sound spot.vol replica found copy is)
copies_match M view (Some e) leftovers ticket waiting stands spot replica copy =
    let at : CopyAt view spot.vol replica = copy_at view spot replica copy in
    absurd (stands.content spot.vol replica.stamp at.block_there at.meta_there)

pub block_is_sound : (M : List ℕ → Replica → Type 0) → BlockIsSound M
block_is_sound M view books cell stands spot replica greatest =
    copies_match M view books.entry books.leftovers books.ticket cell stands spot replica greatest.copy

pub stands_is_sound : (M : ℕ → List ℕ → Replica → Type 0) → StandsIsSound M
stands_is_sound M told books cells image stands leaves id valid =
    let world : World = leaves.0 in
    let here = stands world leaves.1 in
    let Q : BlockFiles → Type 0 = λ files. HasSoundCopies (M id) files in
    subst Q (sym (image_files world image id here.aside leaves.2))
    (block_is_sound (M id) (view_of world id) (books id) (cells id) (here.blocks id valid))
