-- What the books and the cell of a block say of the files that were found of it.
use Rattle.std.proofs.Common.{◌≡◌, ◌⊎◌, ◌<◌, inl, inr, ℕ, Bool, true, false, not, List, [], ◌∷◌, Option, Some, None, All, Contains, refl, ap, sym, ◌∙◌, subst, IsTrue, length, arith}
use Rattle.std.specs.Prelude.{AllPairs, ◌||◌, is_some, IsSome, IsSomeAnd}
use Rattle.std.proofs.lemmas.Bool.{false≢true, or_cases}
use Rattle.std.proofs.lemmas.List.Elements.{All-contains}
use Rattle.std.proofs.lemmas.Option.{none-some, same_Some}
use Rattle.disk_model.specs.Worlds.{World}
use Rattle.volume_layout.specs.Paths.{IsStamp, block_path}
use Rattle.volume_layout.specs.Choice.{AtLeast}
use Rattle.volume_layout.specs.declared.block_file.BlockFile.{BlockFile}
use Rattle.volume_layout.specs.declared.block_file.BlockFile.TheVariants.{Block, Meta, WritingBlock, WritingMeta, TemporaryBlock, TemporaryMeta}
use Rattle.map_model.specs.Cells.{Replica, Cell, absent, final, growing, unsure, waiting}
use Rattle.map_model.specs.Copies.{Spot, own_spot, IsGreatestCopy, ReadsAs}
use Rattle.map_model.specs.Sound.{HasSoundCopies}
use Rattle.map_model.specs.Openings.{LeavesBlockFile, MakesCell}
use Rattle.map_model.specs.Slots.{Slot, holds, drafted, is_standing, bytes_in, View, files_in}
use Rattle.map_model.specs.Stands.{IsListed, Each, LeftoverFits, IsFinalised, Leftover, EntryState, is_final, is_written, in_doubt, is_waiting, StateNames, Entry, BlockBooks, BlockStands}
use Rattle.map_model.specs.Tenures.{books_of}
use Rattle.map_model.proofs.SlotLemmas.{bytes-standing}
use Rattle.dup_resolve.specs.declared.CopyRow.{CopyRow}
use Rattle.dup_resolve.specs.Picks.{IsAtLeast}
use Rattle.pool_state.specs.Stands.{IsVolume, BooksFit}
use Rattle.pool_survey.specs.declared.found.FoundFiles.{FoundFiles}
use Rattle.pool_survey.specs.declared.places.FoundOn.{FoundOn}
use Rattle.pool_survey.specs.Found.{has_block, metas_of, has_writing, writing_metas_of}
use Rattle.pool_survey.specs.Regions.{AreFiles}
use Rattle.pool_survey.specs.Places.{found_on, ArePlaces}
use Rattle.pool_open.specs.declared.outcome.Outcome.{Outcome}
use Rattle.pool_open.specs.declared.outcome.Outcome.TheVariants.{Final, Waiting, Absent}
use Rattle.pool_open.specs.Plan.{copy_stamp, leaves_block, leaves_some, kept_on}
use Rattle.pool_open.specs.Found.{entry_of, IsSizeOf, IsCopyFound, HasCopyOn, IsKept, HasNoCopy, IsOutcome, AreHeld, IsWaitingEntry, SaysNothing, SaysOutcome, SaysFound}
use Rattle.pool_open.specs.Outcome.{IsOpened, KeptOn}
use Rattle.pool_open.proofs.Placed.{none_in, first_in, later_in, in_cases, no_copy_meta, on_there, found_there, copy_of, copy_found, copy_meta, some_leaves, none_leaves, first_left}
use Rattle.pool_open.proofs.Planned.{goes}
use Rattle.pool_open.proofs.Slots.{replica_of, no_pair_reads, absent_stands, final_stands, waiting_stands, each_append, listed_right, listed_left, each_kept, lists_block, lists_writing, lists_meta, kept_fits}
use Rattle.pool_open.proofs.Blocks.{slot_bytes, held_slot, IsShown, Partly, partly_none, len_on, KeepsCopy, NoCopy, IsMade, made_copy, made_none, greatest_one, keeps_greatest, own_block, own_meta, lone_no_pair, now_found, now_settled, left_on, at_own}

-- ---- the entry

-- the volume of the replica that an entry is
abbrev pub final_vol : EntryState → ℕ → Option ℕ
final_vol is_final vol = Some vol
final_vol (is_written base block_number meta_number) vol = None
final_vol (in_doubt base) vol = None
final_vol is_waiting vol = None

abbrev pub final_volume : Option Entry → Option ℕ
final_volume None = None
final_volume (Some entry) = final_vol entry.state entry.vol

abbrev pub entry_len : Option Entry → ℕ
entry_len None = 0
entry_len (Some entry) = entry.len

-- the cell of an entry that an opening made, where its block file has these bytes
abbrev pub cell_in : List ℕ → ℕ → EntryState → Cell
cell_in bytes stamp is_final = final (replica_of stamp bytes)
cell_in bytes stamp (is_written base block_number meta_number) = waiting
cell_in bytes stamp (in_doubt base) = waiting
cell_in bytes stamp is_waiting = waiting

abbrev pub cell_of : List ℕ → Option Entry → Cell
cell_of bytes None = absent
cell_of bytes (Some entry) = cell_in bytes entry.stamp entry.state

opened_in : (bytes : List ℕ) (stamp : ℕ) (state : EntryState) → IsOpened (cell_in bytes stamp state)
opened_in bytes stamp is_final = inr (inl (replica_of stamp bytes, refl))
opened_in bytes stamp (is_written base block_number meta_number) = inr (inr refl)
opened_in bytes stamp (in_doubt base) = inr (inr refl)
opened_in bytes stamp is_waiting = inr (inr refl)

pub opened_by : (bytes : List ℕ) (entry : Option Entry) → IsOpened (cell_of bytes entry)
opened_by bytes None = inl refl
opened_by bytes (Some entry) = opened_in bytes entry.stamp entry.state

-- the replica of a cell
abbrev cell_replica : Cell → Option Replica
cell_replica absent = None
cell_replica (final replica) = Some replica
cell_replica (growing stamp base bytes left) = None
cell_replica (unsure x y cut) = None
cell_replica waiting = None

-- ---- what the books say, in a world that was surveyed

pub data BooksSay (told : Option (List World)) (id : ℕ) (places : List FoundOn) (kept : Option ℕ) (was : View) (books : BlockBooks) : Type 0 where
  says_final : (own rev stamp len : ℕ) → kept ≡ Some own → KeepsCopy (found_on places) was own stamp → len ≡ len_on was own →
      books ≡ books_of (Some (entry_of own rev stamp len is_final)) [] None → BooksSay told id places kept was books
  says_waiting : kept ≡ None → NoCopy (found_on places) → leaves_some places ≡ true → IsWaitingEntry told id places books → BooksSay told id places kept was books
  says_nothing : kept ≡ None → NoCopy (found_on places) → leaves_some places ≡ false → SaysNothing books → BooksSay told id places kept was books

module _ (told : Option (List World)) (id : ℕ) (places : List FoundOn) (rise : AllPairs (λ on other. on.vol < other.vol) places) where
  -- no copy on any volume
  no_copy_on : HasNoCopy places → NoCopy (found_on places)
  no_copy_on none vol = by (found_on places vol) refl
    where
      by : (o : Option FoundFiles) → found_on places vol ≡ o → copy_of (found_on places vol) ≡ None
      by None is = ap copy_of is
      by (Some files) is =
          let on = on_there places vol files is in
          ap copy_of is ∙ sym (ap copy_stamp on.3) ∙ All-contains (λ (on : FoundOn). copy_stamp on.files ≡ None) places on.0 none on.1

  pub copy_on : (copy : CopyRow) → IsCopyFound told id places copy → (on : FoundOn) × Contains places on × (on.vol ≡ copy.vol) × (copy_of (found_on places copy.vol) ≡ Some copy.stamp)
  copy_on copy found =
      let is : found_on places copy.vol ≡ Some found.on.files = subst (λ v. found_on places v ≡ Some found.on.files) found.vol (found_there places rise found.on found.found) in
      (found.on, found.found, found.vol, ap copy_of is ∙ found.stamp)

  module _ (was : View) (len_is : (vol len : ℕ) → has_block (found_on places vol) ≡ true → IsSizeOf told vol (block_path id) len → len ≡ len_on was vol) where
    copy_len : (copy : CopyRow) → IsCopyFound told id places copy → copy.len ≡ len_on was copy.vol
    copy_len copy found = len_is copy.vol copy.len (copy_found (found_on places copy.vol) copy.stamp (copy_on copy found).3).0 found.size

    at_least : (copy other : CopyRow) → copy.len ≡ len_on was copy.vol → other.len ≡ len_on was other.vol → IsAtLeast None copy other →
        AtLeast copy.stamp (len_on was copy.vol) copy.vol other.stamp (len_on was other.vol) other.vol
    at_least copy other len other_len (inl less) = inl less
    at_least copy other len other_len (inr (same, inl shorter)) = inr (same, inl (omega (arith, len, other_len, shorter)))
    at_least copy other len other_len (inr (same, inr (equal, inl held))) = absurd (none-some copy.vol held)
    at_least copy other len other_len (inr (same, inr (equal, inr lower))) = inr (same, inr (sym other_len ∙ equal ∙ len, lower.1))

    keeps : (copy : CopyRow) → IsKept told id places copy → KeepsCopy (found_on places) was copy.vol copy.stamp
    keeps copy kept =
        let each : (one : CopyRow) → Contains kept.copies one → IsCopyFound told id places one = λ one has. All-contains (IsCopyFound told id places) kept.copies one kept.are.each has in
        let own = each copy kept.one_of in
        record {
          here = (copy_on copy own).3;
          greatest = λ vol other is.
              let found = some_found vol other (found_on places vol) refl is in
              let on = on_there places vol found.0 found.1 in
              let has = All-contains (λ (on : FoundOn). IsSome (copy_stamp on.files) → HasCopyOn kept.copies on.vol) places on.0 kept.are.all on.1
              (ap is_some (ap copy_stamp on.3 ∙ found.2)) in
              let one : CopyRow = has.0 in
              let there = each one has.1 in
              let vols : one.vol ≡ vol = has.2 ∙ on.2 in
              let stamps : one.stamp ≡ other = same_Some one.stamp other (sym (copy_on one there).3 ∙ ap (λ v. copy_of (found_on places v)) vols ∙ is) in
              let least = at_least copy one (copy_len copy own) (copy_len one there) (All-contains (IsAtLeast None copy) kept.copies one kept.greatest has.1) in
              subst (λ v. AtLeast copy.stamp (len_on was copy.vol) copy.vol other (len_on was v) v) vols
              (subst (λ s. AtLeast copy.stamp (len_on was copy.vol) copy.vol s (len_on was one.vol) one.vol) stamps least);
        }
      where
        some_found : (vol other : ℕ) (o : Option FoundFiles) → found_on places vol ≡ o → copy_of (found_on places vol) ≡ Some other →
            (files : FoundFiles) × (found_on places vol ≡ Some files) × (copy_stamp files ≡ Some other)
        some_found vol other None none is = absurd (none-some other (sym (ap copy_of none) ∙ is))
        some_found vol other (Some files) some is = (files, some, sym (ap copy_of some) ∙ is)

    said : (kept : Option ℕ) (books : BlockBooks) → kept ≡ final_volume books.entry → (outcome : Outcome) → IsOutcome told id places outcome → SaysOutcome outcome told id places books →
        BooksSay told id places kept was books
    said kept books volume (Final copy) is says =
        let own = All-contains (IsCopyFound told id places) is.copies copy is.are.each is.one_of in
        says_final copy.vol says.rev copy.stamp copy.len (volume ∙ ap (λ (b : BlockBooks). final_volume b.entry) says.is) (keeps copy is) (copy_len copy own) says.is
    said kept books volume Waiting is says =
        says_waiting (volume ∙ ap (λ (b : BlockBooks). final_volume b.entry) says.is) (no_copy_on is.0) is.1 says
    said kept books volume Absent is says =
        says_nothing (volume ∙ ap (λ (b : BlockBooks). final_volume b.entry) says) (no_copy_on is.0) is.1 says

    pub books_say : (kept : Option ℕ) (books : BlockBooks) → kept ≡ final_volume books.entry → SaysFound told id places books → BooksSay told id places kept was books
    books_say kept books volume says = said kept books volume says.outcome says.is says.says

-- the plan spares the kept copy
pub keeps_whole : (told : Option (List World)) (id : ℕ) (places : List FoundOn) (books : BlockBooks) → AllPairs (λ on other. on.vol < other.vol) places → SaysFound told id places books →
    (on : FoundOn) → Contains places on → (own : ℕ) → final_volume books.entry ≡ Some own → on.vol ≡ own → copy_stamp on.files ≡ None → ⊥
keeps_whole told id places books rise says on has own volume here none = by says.outcome says.is says.says
  where
    by : (outcome : Outcome) → IsOutcome told id places outcome → SaysOutcome outcome told id places books → ⊥
    by (Final copy) is said =
        let found = copy_on told id places rise copy (All-contains (IsCopyFound told id places) is.copies copy is.are.each is.one_of) in
        let vols : copy.vol ≡ own = same_Some copy.vol own (sym (ap (λ (b : BlockBooks). final_volume b.entry) said.is) ∙ volume) in
        let at : found_on places copy.vol ≡ Some on.files = subst (λ v. found_on places v ≡ Some on.files) (here ∙ sym vols) (found_there places rise on has) in
        none-some copy.stamp (sym none ∙ sym (ap copy_of at) ∙ found.3)
    by Waiting is said = none-some own (sym (ap (λ (b : BlockBooks). final_volume b.entry) said.is) ∙ volume)
    by Absent is said = none-some own (sym (ap (λ (b : BlockBooks). final_volume b.entry) said) ∙ volume)

-- ---- the books fit

module _ (told : Option (List World)) (volumes id : ℕ) (places : List FoundOn) (are : ArePlaces volumes places) (books : BlockBooks) (bytes : List ℕ)
    (length_is : (own : ℕ) → final_volume books.entry ≡ Some own → entry_len books.entry ≡ length bytes) where
  on_volume : (on : FoundOn) → Contains places on → IsVolume volumes on.vol
  on_volume on has = All-contains (λ (on : FoundOn). IsVolume volumes on.vol) places on are.on_volumes has

  fit : (b : BlockBooks) → books ≡ b → BooksFit volumes b (cell_of bytes b.entry) → BooksFit volumes books (cell_of bytes books.entry)
  fit b is fits = subst (λ (x : BlockBooks). BooksFit volumes x (cell_of bytes x.entry)) (sym is) fits

  held_placed : (stamp : ℕ) (some : List FoundOn) (left : List Leftover) → ((on : FoundOn) → Contains some on → Contains places on) → AreHeld told id stamp some left →
      Each (λ leftover. IsVolume volumes leftover.vol) left
  held_placed stamp [] left within held = subst (λ (l : List Leftover). Each (λ leftover. IsVolume volumes leftover.vol) l) (sym held) tt
  held_placed stamp (on ∷ more) left within (one, rest, is, here, later) =
      let there = on_volume on (within on (first_in on more)) in
      let P : Leftover → Type 0 = λ leftover. IsVolume volumes leftover.vol in
      let first : Each P one = subst (λ (l : List Leftover). Each P l) (sym here.is) (each_kept P stamp here.block_len here.writing_len on there there (λ meta has. there)) in
      subst (λ (l : List Leftover). Each P l) (sym is)
      (each_append P one rest first (held_placed stamp more rest (λ o has. within o (later_in on more o has)) later))

  fits_by : (outcome : Outcome) → IsOutcome told id places outcome → SaysOutcome outcome told id places books → BooksFit volumes books (cell_of bytes books.entry)
  fits_by (Final copy) is says =
      let found = All-contains (IsCopyFound told id places) is.copies copy is.are.each is.one_of in
      let volume : final_volume books.entry ≡ Some copy.vol = ap (λ (b : BlockBooks). final_volume b.entry) says.is in
      let there : IsVolume volumes copy.vol = subst (λ v. IsVolume volumes v) found.vol (on_volume found.on found.found) in
      fit (books_of (Some (entry_of copy.vol says.rev copy.stamp copy.len is_final)) [] None) says.is (record {
        agrees = (refl, refl, sym (ap (λ (b : BlockBooks). entry_len b.entry) says.is) ∙ length_is copy.vol volume);
        placed = there;
        left_placed = tt;
        clean = λ none. refl;
        fresh = refl;
      })
  fits_by Waiting is says =
      let there : IsVolume volumes says.vol = subst (λ v. IsVolume volumes v) says.first.vol_is (on_volume says.first.first (first_left places says.first.first says.first.is_first).0) in
      fit (books_of (Some (entry_of says.vol says.rev says.stamp says.len is_waiting)) says.left None) says.is (record {
        agrees = refl;
        placed = there;
        left_placed = held_placed says.stamp places says.left (λ on has. has) says.held;
        clean = λ none. absurd none;
        fresh = refl;
      })
  fits_by Absent is says = fit (books_of None [] None) says (record { agrees = tt; placed = tt; left_placed = tt; clean = λ none. refl; fresh = tt })

  pub books_fit : SaysFound told id places books → BooksFit volumes books (cell_of bytes books.entry)
  books_fit says = fits_by says.outcome says.is says.says

-- ---- the cell and the files

module _ (told : Option (List World)) (id : ℕ) (places : List FoundOn) (rise : AllPairs (λ on other. on.vol < other.vol) places) (kept : Option ℕ) (was : View) (books : BlockBooks) where
  -- what an opening makes of the block
  pub is_made : BooksSay told id places kept was books → IsMade kept (found_on places) was
  is_made (says_final own rev stamp len at keeps length_is is) = made_copy own stamp at keeps
  is_made (says_waiting at none leaves says) = made_none at none
  is_made (says_nothing at none leaves says) = made_none at none

  -- the length of its entry
  pub said_len : BooksSay told id places kept was books → (own : ℕ) → final_volume books.entry ≡ Some own → entry_len books.entry ≡ len_on was own
  said_len (says_final it rev stamp len at keeps length_is is) own volume =
      let vols : it ≡ own = same_Some it own (sym (ap (λ (b : BlockBooks). final_volume b.entry) is) ∙ volume) in
      ap (λ (b : BlockBooks). entry_len b.entry) is ∙ length_is ∙ ap (len_on was) vols
  said_len (says_waiting at none leaves says) own volume = absurd (none-some own (sym (ap (λ (b : BlockBooks). final_volume b.entry) says.is) ∙ volume))
  said_len (says_nothing at none leaves says) own volume = absurd (none-some own (sym (ap (λ (b : BlockBooks). final_volume b.entry) says) ∙ volume))

  module _ (shown : IsShown (found_on places) was) (bytes : List ℕ) (bytes_are : (own : ℕ) → final_volume books.entry ≡ Some own → bytes ≡ slot_bytes (was own Block)) where
    volume_is : (own rev stamp len : ℕ) → books ≡ books_of (Some (entry_of own rev stamp len is_final)) [] None → bytes ≡ slot_bytes (was own Block)
    volume_is own rev stamp len is = bytes_are own (ap (λ (b : BlockBooks). final_volume b.entry) is)

    -- the kept copy is read of the world
    greatest_here : (own stamp : ℕ) → kept ≡ Some own → KeepsCopy (found_on places) was own stamp → bytes ≡ slot_bytes (was own Block) →
        IsGreatestCopy (files_in was) (own_spot own) (replica_of stamp bytes)
    greatest_here own stamp at keeps same =
        subst (λ (b : List ℕ). IsGreatestCopy (files_in was) (own_spot own) (replica_of stamp b)) (sym same)
        (keeps_greatest kept (found_on places) was was shown (partly_none kept (found_on places) was) own stamp at keeps)

    reads_none : NoCopy (found_on places) → ReadsAs (files_in was) None
    reads_none none = no_pair_reads was (lone_no_pair kept (found_on places) was was shown (partly_none kept (found_on places) was) none)

    file_there : (on : FoundOn) → Contains places on → leaves_block on ≡ true → LeavesBlockFile (files_in was)
    file_there on has leaves =
        let at : found_on places on.vol ≡ Some on.files = found_there places rise on has in
        elim (or_cases on.files.block on.files.writing leaves) [
          | inl block ↦ (
            on.vol,
            inr (ap (λ s. is_some (bytes_in s)) (held_slot (was on.vol Block) (shown.stands on.vol Block (ap has_block at ∙ block)) (λ number. shown.settled on.vol Block number tt))),
          )
          | inr writing ↦ (on.vol, inl (shown.stands on.vol WritingBlock (ap has_writing at ∙ writing)))
        ]

    found_leaves : (vol : ℕ) (file : BlockFile) (o : Option FoundFiles) → found_on places vol ≡ o → (has_block o ≡ true) ⊎ (has_writing o ≡ true) → leaves_some places ≡ false → ⊥
    found_leaves vol file None is some none = elim some [ inl bad ↦ false≢true bad | inr bad ↦ false≢true bad ]
    found_leaves vol file (Some files) is some none =
        let on = on_there places vol files is in
        none_leaves places none on.0 on.1 (elim some [
          | inl block ↦ ap (λ b. b || on.0.files.writing) (ap (λ (f : FoundFiles). f.block) on.3 ∙ block)
          | inr writing ↦ or_right on.0.files.block on.0.files.writing (ap (λ (f : FoundFiles). f.writing) on.3 ∙ writing)
        ])
      where
        or_right : (a b : Bool) → b ≡ true → (a || b) ≡ true
        or_right true b is = refl
        or_right false b is = is

    no_file : leaves_some places ≡ false → LeavesBlockFile (files_in was) → ⊥
    no_file none (vol, inl writing) = found_leaves vol WritingBlock (found_on places vol) refl (inr (shown.stood vol WritingBlock refl writing)) none
    no_file none (vol, inr settled) = found_leaves vol Block (found_on places vol) refl (inl (shown.stood vol Block refl (bytes-standing (was vol Block) settled))) none

    pub made_cell : BooksSay told id places kept was books → MakesCell (files_in was) (cell_of bytes books.entry)
    made_cell (says_final own rev stamp len at keeps length_is is) = record {
      replica = Some (replica_of stamp bytes);
      reads = (own_spot own, greatest_here own stamp at keeps (volume_is own rev stamp len is));
      made = ap (λ (b : BlockBooks). cell_of bytes b.entry) is;
    }
    made_cell (says_waiting at none leaves says) =
        let on = some_leaves places leaves in
        record {
          replica = None;
          reads = reads_none none;
          made = record { waits = λ some. ap (λ (b : BlockBooks). cell_of bytes b.entry) says.is; absent = λ bare. absurd (bare (file_there on.0 on.1 on.2)) };
        }
    made_cell (says_nothing at none leaves says) = record {
      replica = None;
      reads = reads_none none;
      made = record { waits = λ there. absurd (no_file leaves there); absent = λ bare. ap (λ (b : BlockBooks). cell_of bytes b.entry) says };
    }

    -- the entry is where the replica is read
    pub kept_on_volume : BooksSay told id places kept was books → (replica : Replica) → cell_of bytes books.entry ≡ final replica → KeptOn (files_in was) books replica
    kept_on_volume (says_final own rev stamp len at keeps length_is is) replica cell =
        let same : replica_of stamp bytes ≡ replica = same_Some (replica_of stamp bytes) replica (ap cell_replica (sym (ap (λ (b : BlockBooks). cell_of bytes b.entry) is) ∙ cell)) in
        let here : IsGreatestCopy (files_in was) (own_spot own) replica =
        subst (λ (r : Replica). IsGreatestCopy (files_in was) (own_spot own) r) same (greatest_here own stamp at keeps (volume_is own rev stamp len is)) in
        subst (λ (b : BlockBooks). KeptOn (files_in was) b replica) (sym is) here
    kept_on_volume (says_waiting at none leaves says) replica cell =
        absurd (none-some replica (ap cell_replica (sym (ap (λ (b : BlockBooks). cell_of bytes b.entry) says.is) ∙ cell)))
    kept_on_volume (says_nothing at none leaves says) replica cell =
        absurd (none-some replica (ap cell_replica (sym (ap (λ (b : BlockBooks). cell_of bytes b.entry) says) ∙ cell)))

    -- the meta of each copy that is read is that on the entry's volume
    pub meta_here : BooksSay told id places kept was books → (meta : ℕ → List ℕ) →
        ((own : ℕ) → final_volume books.entry ≡ Some own → (stamp : ℕ) → meta stamp ≡ slot_bytes (was own (Meta stamp))) →
        HasSoundCopies (λ content replica. content ≡ meta replica.stamp) (files_in was)
    meta_here (says_final own rev stamp len at keeps length_is is) meta meta_is spot replica greatest =
        let r : Replica = replica_of stamp (slot_bytes (was own Block)) in
        let partly = partly_none kept (found_on places) was in
        let one = greatest_one (files_in was) (own_spot own) r spot replica (keeps_greatest kept (found_on places) was was shown partly own stamp at keeps) greatest in
        let at_volume : meta stamp ≡ slot_bytes (was own (Meta stamp)) = meta_is own (ap (λ (b : BlockBooks). final_volume b.entry) is) stamp in
        let P : Spot → Replica → Type 0 = λ s x. IsSomeAnd (bytes_in (was s.vol (Meta x.stamp))) (λ content. content ≡ meta x.stamp) in
        let slot : was own (Meta stamp) ≡ holds (slot_bytes (was own (Meta stamp))) = own_meta kept (found_on places) was was shown partly own stamp at keeps in
        let here : P (own_spot own) r = subst (λ (s : Slot). IsSomeAnd (bytes_in s) (λ content. content ≡ meta stamp)) (sym slot) (sym at_volume) in
        subst (λ (x : Replica). P spot x) one.1 (subst (λ (s : Spot). P s r) one.0 here)
    meta_here (says_waiting at none leaves says) meta meta_is spot replica greatest = absurd (reads_none none spot replica greatest.copy)
    meta_here (says_nothing at none leaves says) meta meta_is spot replica greatest = absurd (reads_none none spot replica greatest.copy)

    module _ (now : View) (partly : Partly kept (found_on places) was now) (left : (vol : ℕ) (file : BlockFile) → IsTrue (is_standing (now vol file)) → goes kept (found_on places vol) vol file ≡ false)
        (files_are : (on : FoundOn) → Contains places on → AreFiles (Some on.files)) (M : List ℕ → Replica → Type 0) (sound : HasSoundCopies M (files_in was)) where
      abbrev StandsHere : BlockBooks → Type 0
      StandsHere b = BlockStands M now b (cell_of bytes b.entry)

      settled_now : (vol : ℕ) (file : BlockFile) (number : ℕ) → IsFinalised file → now vol file ≡ drafted number → ⊥
      settled_now = now_settled kept (found_on places) was now shown partly

      meta_in_range : (vol stamp : ℕ) (o : Option FoundFiles) → found_on places vol ≡ o → Contains (metas_of o) stamp → IsStamp stamp
      meta_in_range vol stamp None is has = absurd (none_in stamp has)
      meta_in_range vol stamp (Some files) is has =
          let on = on_there places vol files is in
          All-contains IsStamp files.metas.items stamp (subst (λ (f : FoundFiles). All IsStamp f.metas.items) on.3 (files_are on.0 on.1).metas.in_range) has

      -- the replica's pair alone
      named : (own stamp : ℕ) → kept ≡ Some own → copy_of (found_on places own) ≡ Some stamp → (vol : ℕ) (file : BlockFile) → IsTrue (is_standing (now vol file)) →
          (own ≡ vol) × StateNames is_final stamp file
      named own stamp at here vol Block there = (sym (at_own kept (found_on places) was now shown partly left own vol (left_on kept (found_on places) was now shown partly left own at vol Block there)), tt)
      named own stamp at here vol (Meta other) there =
          let same : vol ≡ own = at_own kept (found_on places) was now shown partly left own vol (left_on kept (found_on places) was now shown partly left own at vol (Meta other) there) in
          let found : Contains (metas_of (found_on places own)) other = subst (λ v. Contains (metas_of (found_on places v)) other) same (now_found kept (found_on places) was now shown partly vol (Meta other) refl there) in
          (sym same, copy_meta (found_on places own) stamp other (shown.few own) here found)
      named own stamp at here vol WritingBlock there = absurd (false≢true (sym (left_on kept (found_on places) was now shown partly left own at vol WritingBlock there)))
      named own stamp at here vol (WritingMeta other) there = absurd (false≢true (sym (left_on kept (found_on places) was now shown partly left own at vol (WritingMeta other) there)))
      named own stamp at here vol TemporaryBlock there = absurd (false≢true (sym (left_on kept (found_on places) was now shown partly left own at vol TemporaryBlock there)))
      named own stamp at here vol (TemporaryMeta other) there = absurd (false≢true (sym (left_on kept (found_on places) was now shown partly left own at vol (TemporaryMeta other) there)))

      matched_slot : (slot : Slot) (content : List ℕ) (r : Replica) → slot ≡ holds content → IsSomeAnd (bytes_in slot) (λ c. M c r) → M content r
      matched_slot slot content r is matched = subst (λ (s : Slot). IsSomeAnd (bytes_in s) (λ c. M c r)) is matched

      final_here : (own rev stamp len : ℕ) → kept ≡ Some own → KeepsCopy (found_on places) was own stamp → len ≡ len_on was own →
          books ≡ books_of (Some (entry_of own rev stamp len is_final)) [] None → StandsHere books
      final_here own rev stamp len at keeps length_is is =
          let same = volume_is own rev stamp len is in
          let none = partly_none kept (found_on places) was in
          let was_meta = own_meta kept (found_on places) was was shown none own stamp at keeps in
          let first = copy_found (found_on places own) stamp keeps.here in
          subst (λ (b : BlockBooks). StandsHere b) (sym is)
          (final_stands M now own rev stamp len bytes
          (record {
            block_file = own_block kept (found_on places) was now shown partly own stamp at keeps ∙ ap holds (sym same);
            content = slot_bytes (was own (Meta stamp));
            meta_file = own_meta kept (found_on places) was now shown partly own stamp at keeps;
            matches = matched_slot (was own (Meta stamp)) (slot_bytes (was own (Meta stamp))) (replica_of stamp bytes) was_meta
                (sound (own_spot own) (replica_of stamp bytes) (greatest_here own stamp at keeps same));
          })
          (meta_in_range own stamp (found_on places own) refl (subst (λ (ms : List ℕ). Contains ms stamp) (sym first.2) (first_in stamp first.1)))
          (length_is ∙ sym (ap length same))
          (named own stamp at keeps.here)
          settled_now)

      -- the files that wait
      held_lists : (stamp : ℕ) (file : BlockFile) (on : FoundOn) (some : List FoundOn) (left_over : List Leftover) → AreHeld told id stamp some left_over → Contains some on →
          ((block_len writing_len : ℕ) → IsListed (kept_on stamp block_len writing_len on) on.vol file) → IsListed left_over on.vol file
      held_lists stamp file on [] left_over held has lists = absurd (none_in on has)
      held_lists stamp file on (first ∷ more) left_over (one, rest, is, here, later) has lists =
          subst (λ (l : List Leftover). IsListed l on.vol file) (sym is)
          (elim (in_cases first more on has) [
            | inl same ↦ listed_left one rest on.vol file
                (subst (λ (l : List Leftover). IsListed l on.vol file) (sym here.is)
                (subst (λ (o : FoundOn). IsListed (kept_on stamp here.block_len here.writing_len o) on.vol file) (sym same) (lists here.block_len here.writing_len)))
            | inr within ↦ listed_right one rest on.vol file (held_lists stamp file on more rest later within lists)
          ])

      held_fits : (own rev stamp len : ℕ) (some : List FoundOn) (left_over : List Leftover) → ((on : FoundOn) → Contains some on → Contains places on) →
          AreHeld told id stamp some left_over → Each (LeftoverFits (Some (entry_of own rev stamp len is_waiting))) left_over
      held_fits own rev stamp len [] left_over within held =
          subst (λ (l : List Leftover). Each (LeftoverFits (Some (entry_of own rev stamp len is_waiting))) l) (sym held) tt
      held_fits own rev stamp len (on ∷ more) left_over within (one, rest, is, here, later) =
          let P : Leftover → Type 0 = LeftoverFits (Some (entry_of own rev stamp len is_waiting)) in
          let stamps = files_are on (within on (first_in on more)) in
          let first : Each P one = subst (λ (l : List Leftover). Each P l) (sym here.is)
          (kept_fits stamp here.block_len here.writing_len on own rev len (λ found has. All-contains IsStamp on.files.writing_metas.items found stamps.writing_metas.in_range has)) in
          subst (λ (l : List Leftover). Each P l) (sym is)
          (each_append P one rest first (held_fits own rev stamp len more rest (λ o has. within o (later_in on more o has)) later))

      left_none : kept ≡ None → (vol : ℕ) (file : BlockFile) → IsTrue (is_standing (now vol file)) → goes None (found_on places vol) vol file ≡ false
      left_none at vol file there = subst (λ k. goes k (found_on places vol) vol file ≡ false) at (left vol file there)

      not_false : (b : Bool) → not b ≡ false → b ≡ true
      not_false true is = refl
      not_false false is = absurd (false≢true (sym is))

      listed_on : (stamp : ℕ) (left_over : List Leftover) → AreHeld told id stamp places left_over → (vol : ℕ) (file : BlockFile) (o : Option FoundFiles) → found_on places vol ≡ o →
          ((on : FoundOn) → Some on.files ≡ o → (block_len writing_len : ℕ) → IsListed (kept_on stamp block_len writing_len on) on.vol file) → (o ≡ None → ⊥) → IsListed left_over vol file
      listed_on stamp left_over held vol file None is lists some = absurd (some refl)
      listed_on stamp left_over held vol file (Some files) is lists some =
          let on = on_there places vol files is in
          subst (λ v. IsListed left_over v file) on.2 (held_lists stamp file on.0 places left_over held on.1 (lists on.0 (ap Some on.3)))

      writing_some : (o : Option FoundFiles) → has_writing o ≡ true → o ≡ None → ⊥
      writing_some o is none = false≢true (sym (ap has_writing none) ∙ is)

      waits_listed : kept ≡ None → NoCopy (found_on places) → (stamp : ℕ) (left_over : List Leftover) → AreHeld told id stamp places left_over →
          (vol : ℕ) (file : BlockFile) → IsTrue (is_standing (now vol file)) → IsListed left_over vol file
      waits_listed at none stamp left_over held vol Block there =
          let found : has_block (found_on places vol) ≡ true = now_found kept (found_on places) was now shown partly vol Block refl there in
          listed_on stamp left_over held vol Block (found_on places vol) refl
          (λ on is block_len writing_len. lists_block stamp block_len writing_len on (ap has_block is ∙ found))
          (λ bare. false≢true (sym (ap has_block bare) ∙ found))
      waits_listed at none stamp left_over held vol (Meta other) there =
          let beside : has_block (found_on places vol) ≡ true = not_false (has_block (found_on places vol)) (left_none at vol (Meta other) there) in
          absurd (no_copy_meta (found_on places vol) other (shown.few vol) (none vol) beside (now_found kept (found_on places) was now shown partly vol (Meta other) refl there))
      waits_listed at none stamp left_over held vol WritingBlock there =
          let found : has_writing (found_on places vol) ≡ true = now_found kept (found_on places) was now shown partly vol WritingBlock refl there in
          listed_on stamp left_over held vol WritingBlock (found_on places vol) refl
          (λ on is block_len writing_len. lists_writing stamp block_len writing_len on (ap has_writing is ∙ found))
          (writing_some (found_on places vol) found)
      waits_listed at none stamp left_over held vol (WritingMeta other) there =
          let beside : has_writing (found_on places vol) ≡ true = not_false (has_writing (found_on places vol)) (left_none at vol (WritingMeta other) there) in
          let found : Contains (writing_metas_of (found_on places vol)) other = now_found kept (found_on places) was now shown partly vol (WritingMeta other) refl there in
          listed_on stamp left_over held vol (WritingMeta other) (found_on places vol) refl
          (λ on is block_len writing_len. lists_meta stamp block_len writing_len on (ap has_writing is ∙ beside) other
          (subst (λ (o : Option FoundFiles). Contains (writing_metas_of o) other) (sym is) found))
          (writing_some (found_on places vol) beside)
      waits_listed at none stamp left_over held vol TemporaryBlock there = absurd (false≢true (sym (left_none at vol TemporaryBlock there)))
      waits_listed at none stamp left_over held vol (TemporaryMeta other) there = absurd (false≢true (sym (left_none at vol (TemporaryMeta other) there)))

      waiting_here : kept ≡ None → NoCopy (found_on places) → IsWaitingEntry told id places books → StandsHere books
      waiting_here at none says = subst (λ (b : BlockBooks). StandsHere b) (sym says.is)
          (waiting_stands M now says.vol says.rev says.stamp says.len says.left says.greatest.in_range
          (lone_no_pair kept (found_on places) was now shown partly none)
          (waits_listed at none says.stamp says.left says.held)
          (held_fits says.vol says.rev says.stamp says.len places says.left (λ on has. has) says.held)
          settled_now)

      -- nothing is left of a block without a block file
      nothing_left : kept ≡ None → NoCopy (found_on places) → leaves_some places ≡ false → (vol : ℕ) (file : BlockFile) → IsTrue (is_standing (now vol file)) → ⊥
      nothing_left at none leaves vol Block there = found_leaves vol Block (found_on places vol) refl (inl (now_found kept (found_on places) was now shown partly vol Block refl there)) leaves
      nothing_left at none leaves vol (Meta other) there =
          found_leaves vol Block (found_on places vol) refl (inl (not_false (has_block (found_on places vol)) (left_none at vol (Meta other) there))) leaves
      nothing_left at none leaves vol WritingBlock there =
          found_leaves vol Block (found_on places vol) refl (inr (now_found kept (found_on places) was now shown partly vol WritingBlock refl there)) leaves
      nothing_left at none leaves vol (WritingMeta other) there =
          found_leaves vol Block (found_on places vol) refl (inr (not_false (has_writing (found_on places vol)) (left_none at vol (WritingMeta other) there))) leaves
      nothing_left at none leaves vol TemporaryBlock there = false≢true (sym (left_none at vol TemporaryBlock there))
      nothing_left at none leaves vol (TemporaryMeta other) there = false≢true (sym (left_none at vol (TemporaryMeta other) there))

      -- WHAT IS LEFT STANDS FOR THE CELL
      pub files_stand : BooksSay told id places kept was books → StandsHere books
      files_stand (says_final own rev stamp len at keeps length_is is) = final_here own rev stamp len at keeps length_is is
      files_stand (says_waiting at none leaves says) = waiting_here at none says
      files_stand (says_nothing at none leaves says) =
          subst (λ (b : BlockBooks). StandsHere b) (sym says) (absent_stands M now (nothing_left at none leaves))
