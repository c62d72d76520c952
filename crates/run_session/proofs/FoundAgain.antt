-- What opening a pool again shows, and what a crash can leave meanwhile.
use Rattle.std.proofs.Common.{◌≡◌, inl, inr, ℕ, List, length, Option, Some, None, MatchOption, IfSome, IsSomeAnd, refl, ap, sym, ◌∙◌, subst, IsTrue, IsSome}
use Rattle.std.specs.Prelude.{Result, Ok, Err, OnOk, OnErr}
use Rattle.disk_model.specs.Files.{Files}
use Rattle.disk_model.specs.Worlds.{World}
use Rattle.disk_model.specs.Told.{IsWorldOf, InEachWorld}
use Rattle.disk_model.specs.Moments.{AddsOnly}
use Rattle.disk_model.specs.Marks.{Mark}
use Rattle.volume_layout.specs.Paths.{IsBlockId}
use Rattle.map_model.specs.Cells.{Replica, Cell, Cells, absent, final, growing, unsure, waiting}
use Rattle.map_model.specs.Copies.{Spot, own_spot, spot_rank, BlockFiles, IsCopy, IsGreatestCopy, IsAlone, ReadsAs, OneWhole}
use Rattle.map_model.specs.Allows.{AllowsFiles, AllowsImage}
use Rattle.map_model.specs.Openings.{LeavesBlockFile, WaitsExactly, MakesCell, shown_files}
use Rattle.volume_layout.specs.declared.block_file.BlockFile.{BlockFile}
use Rattle.volume_layout.specs.declared.block_file.BlockFile.TheVariants.{Block, WritingBlock}
use Rattle.map_model.specs.Slots.{Slot, is_standing, bytes_in, View, files_in, view_of}
use Rattle.map_model.specs.Sound.{Knowledge, matching, exactly, Fits, HasSoundCopies, IsSound}
use Rattle.map_model.specs.Stands.{EntryState, is_final, is_written, in_doubt, is_waiting, base_of, Entry, Leftover, Ticket, BlockBooks, Agrees, WritesOver, WriterStands, PairStands, LeftoversAreCopies, BlockStands}
use Rattle.map_model.specs.Steps.{FoundAs, Reopened}
use Rattle.map_model.proofs.LawProofs.{block_allows}
use Rattle.map_model.proofs.Soundness.{block_is_sound}
use Rattle.map_model.proofs.OneReading.{ReadsAs-unique}
use Rattle.map_model.proofs.SlotLemmas.{bytes-standing}
use Rattle.map_model.specs.Tenures.{books_of}
use Rattle.map_model.proofs.Owned.{IsOwn, own_file}
use Rattle.pool_state.specs.Rooms.{Choosing}
use Rattle.pool_state.specs.Stands.{BooksFit, PoolStands}
use Rattle.pool_state.proofs.Whole.{IsWholeIn, block_whole}
use Rattle.pair_draft.specs.Writers.{Writer}
use Rattle.pool_open.specs.Numbering.{ChoosesAnew, first_revision}
use Rattle.pool_open.specs.Outcome.{KeptOn, HasFiles, HasWholeFiles, ReadsAsOne, IsOpened, Opens}
use Rattle.pool_open.proofs.Shown.{shown_view}
use Rattle.script_lang.specs.declared.line.Line.TheVariants.{Node}
use Rattle.script_lang.specs.declared.line.NodeLine.TheVariants.{Reopen}
use Rattle.script_lang.specs.declared.reply.Reply.TheVariants.{Done}
use Rattle.run_model.specs.State.{RunState}
use Rattle.run_model.specs.Commands.{Trust, any_disks, telling_disks, sound_disks}
use Rattle.run_model.specs.Lines.{CellsReopened, IsOnVolumeOf, StayOnVolumes, VolumesReopened}
use Rattle.run_model.specs.Images.{StaysCrashSafe}
use Rattle.run_model.specs.Carrying.{IsKnown, LineCarried}
use Rattle.run_session.specs.Standing.{Standing}
use Rattle.run_session.proofs.Opened.{opened_of, stands_opened, books_opened}

-- ---- one block

-- the cell that an opening makes where this is read
found_so : (files : BlockFiles) (new : Cell) (read : Option Replica) → ReadsAs files read → MakesCell files new → IsOpened new → FoundAs read new
found_so files new read reads made opened =
    by_read read reads (subst (λ (r : Option Replica). MatchOption r (WaitsExactly files new) (λ replica. new ≡ final replica)) (ReadsAs-unique files made.replica read made.reads reads) made.made)
  where
    no_final : (replica : Replica) → new ≡ final replica → WaitsExactly files new → ⊥
    no_final replica is waits =
        let none : LeavesBlockFile files → ⊥ = λ leaves. let bad : final replica ≡ waiting = sym is ∙ waits.waits leaves in cc in
        let bad : final replica ≡ absent = sym is ∙ waits.absent none in cc

    by_read : (r : Option Replica) → ReadsAs files r → MatchOption r (WaitsExactly files new) (λ replica. new ≡ final replica) → FoundAs r new
    by_read (Some replica) reads made_so = made_so
    by_read None reads made_so = elim opened [
      | inl is ↦ inl is
      | inr (inl is) ↦ absurd (no_final is.0 is.1 made_so)
      | inr (inr is) ↦ inr is
    ]

-- where no block file stands, nothing waits
none_absent : (files : BlockFiles) (new : Cell) → ReadsAs files None → MakesCell files new → (LeavesBlockFile files → ⊥) → new ≡ absent
none_absent files new reads made none =
    let waits : WaitsExactly files new = subst (λ (r : Option Replica). MatchOption r (WaitsExactly files new) (λ replica. new ≡ final replica)) (ReadsAs-unique files made.replica None made.reads reads) made.made in
    waits.absent none

some_waits : (files : BlockFiles) (new : Cell) → ReadsAs files None → MakesCell files new → LeavesBlockFile files → new ≡ waiting
some_waits files new reads made leaves =
    let waits : WaitsExactly files new = subst (λ (r : Option Replica). MatchOption r (WaitsExactly files new) (λ replica. new ≡ final replica)) (ReadsAs-unique files made.replica None made.reads reads) made.made in
    waits.waits leaves

-- of an absent block no file of its own stands
nothing_stands : (M : List ℕ → Replica → Type 0) (view : View) (entry : Option Entry) (left : List Leftover) (ticket : Option Ticket) →
    BlockStands M view (books_of entry left ticket) absent → (vol : ℕ) (file : BlockFile) → IsOwn file → IsTrue (is_standing (view vol file)) → ⊥
nothing_stands M view None left ticket stands vol file own there = own_file M view (books_of None left ticket) absent stands vol file own there
nothing_stands M view (Some e) left ticket stands vol file own there = stands.agrees

no_block_file : (view : View) → ((vol : ℕ) (file : BlockFile) → IsOwn file → IsTrue (is_standing (view vol file)) → ⊥) → LeavesBlockFile (files_in view) → ⊥
no_block_file view none leaves = elim leaves.1 [
  | inl written ↦ none leaves.0 WritingBlock tt written
  | inr settled ↦ none leaves.0 Block tt (bytes-standing (view leaves.0 Block) settled)
]

-- the block file of an open writer stands
written_file : (M : List ℕ → Replica → Type 0) (view : View) (entry : Option Entry) (left : List Leftover) (ticket : Option Ticket) (stamp rest : ℕ) (bytes : List ℕ) →
    BlockStands M view (books_of entry left ticket) (growing stamp None bytes rest) → LeavesBlockFile (files_in view)
written_file M view None left ticket stamp rest bytes stands = absurd stands.agrees
written_file M view (Some e) left ticket stamp rest bytes stands = by_state e.state refl
  where
    by_state : (state : EntryState) → e.state ≡ state → LeavesBlockFile (files_in view)
    by_state is_final is = absurd (subst (λ s. WritesOver s None stamp) is stands.agrees.2)
    by_state (in_doubt base) is = absurd (subst (λ s. WritesOver s None stamp) is stands.agrees.2)
    by_state is_waiting is = absurd (subst (λ s. WritesOver s None stamp) is stands.agrees.2)
    by_state (is_written base b m) is =
        let writer = subst (WriterStands view e) is stands.writer in
        (e.vol, inl (ap is_standing writer.0))

-- no writer has a base
no_base : (state : EntryState) (base : Replica) (stamp : ℕ) → base_of state ≡ None → WritesOver state (Some base) stamp → ⊥
no_base is_final base stamp fresh over = over
no_base (is_written None b m) base stamp fresh over = over
no_base (is_written (Some old) b m) base stamp fresh over = absurd cc
no_base (in_doubt old) base stamp fresh over = over
no_base is_waiting base stamp fresh over = over

based : (entry : Option Entry) (base : Replica) (stamp left : ℕ) (bytes : List ℕ) → IfSome entry (λ e. base_of e.state ≡ None) → Agrees entry (growing stamp (Some base) bytes left) → ⊥
based None base stamp left bytes fresh agrees = agrees
based (Some e) base stamp left bytes fresh agrees = no_base e.state base stamp fresh agrees.2

-- WHAT A CELL IS FOUND AS
module _ (M : List ℕ → Replica → Type 0) (view : View) (books : BlockBooks) (fresh : IfSome books.entry (λ e. base_of e.state ≡ None))
    (new : Cell) (made : MakesCell (files_in view) new) (opened : IsOpened new) where
  found_again : (cell : Cell) → BlockStands M view books cell → (read : Option Replica) → ReadsAs (files_in view) read → FoundAs read new
  found_again cell stands read reads = found_so (files_in view) new read reads made opened

  pub block_reopened : (cell : Cell) → BlockStands M view books cell → Reopened cell new
  block_reopened absent stands =
      let allows = block_allows M view books absent stands in
      none_absent (files_in view) new (subst (λ (r : Option Replica). ReadsAs (files_in view) r) allows.allowed allows.reads) made
      (no_block_file view (nothing_stands M view books.entry books.leftovers books.ticket stands))
  block_reopened (final replica) stands =
      let allows = block_allows M view books (final replica) stands in
      subst (λ (r : Option Replica). FoundAs r new) allows.allowed (found_again (final replica) stands allows.read allows.reads)
  block_reopened (growing stamp None bytes left) stands =
      let allows = block_allows M view books (growing stamp None bytes left) stands in
      some_waits (files_in view) new (subst (λ (r : Option Replica). ReadsAs (files_in view) r) allows.allowed allows.reads) made (written_file M view books.entry books.leftovers books.ticket stamp left bytes stands)
  block_reopened (growing stamp (Some base) bytes left) stands = absurd (based books.entry base stamp left bytes fresh stands.agrees)
  block_reopened waiting stands =
      let allows = block_allows M view books waiting stands in
      elim (subst (λ (r : Option Replica). FoundAs r new) allows.allowed (found_again waiting stands allows.read allows.reads)) [
        | inl gone ↦ inr gone
        | inr waits ↦ inl waits
      ]
  block_reopened (unsure x y cut) stands =
      let allows = block_allows M view books (unsure x y cut) stands in
      let seen = found_again (unsure x y cut) stands allows.read allows.reads in
      elim allows.allowed [
        | inl first ↦ inl (subst (λ (r : Option Replica). FoundAs r new) first seen)
        | inr (inl second) ↦ inr (inl (subst (λ (r : Option Replica). FoundAs r new) second seen))
        | inr (inr gone) ↦ inr (inr (gone.0, subst (λ (r : Option Replica). FoundAs r new) gone.1 seen))
      ]

-- where a replica's pair stands, a block file does
pair_block : (M : List ℕ → Replica → Type 0) (view : View) (vol : ℕ) (replica : Replica) → PairStands M view vol replica → IsSome ((files_in view).block (own_spot vol))
pair_block M view vol replica pair = subst (λ (slot : Slot). IsSome (bytes_in slot)) (sym pair.block_file) refl

-- the only block file stands where the replica's does
stays_with : (M : List ℕ → Replica → Type 0) (view : View) (left : List Leftover) (replica : Replica) → IsWholeIn view → (was now : Option Entry) →
    IsSomeAnd was (λ e. PairStands M view e.vol replica × LeftoversAreCopies view left e.vol) →
    IsSomeAnd now (λ e. IsGreatestCopy (files_in view) (own_spot e.vol) replica) → IfSome was (λ e. IsSomeAnd now (λ f. f.vol ≡ e.vol))
stays_with M view left replica whole None now pair greatest = tt
stays_with M view left replica whole (Some e) None pair greatest = greatest
stays_with M view left replica whole (Some e) (Some f) pair greatest =
    sym (ap spot_rank ((whole (own_spot f.vol) replica greatest.copy).no_block (own_spot e.vol) (pair_block M view e.vol replica pair.0)))

-- the copy that is read of a block stands on the volume of its replica
block_stays : (M : List ℕ → Replica → Type 0) (view : View) {volumes : ℕ} (books books' : BlockBooks) (replica : Replica) → BooksFit volumes books (final replica) →
    BlockStands M view books (final replica) → KeptOn (files_in view) books' replica → IsOnVolumeOf books books'
block_stays M view books books' replica fit stands kept =
    stays_with M view books.leftovers replica (block_whole M view books (final replica) fit stands) books.entry books'.entry stands.content kept

-- ---- the pool

module _ {told : Option (List World)} {volumes : ℕ} {books : ℕ → BlockBooks} {known : Knowledge} {cells : Cells}
    (stands : PoolStands told volumes books known cells) where
  module _ (world : World) (is : IsWorldOf told world) (id : ℕ) (valid : IsBlockId id) where
    own : BlockStands (Fits known id) (view_of world id) (books id) (cells id)
    own = stands.blocks world is id valid

    same : shown_files world id ≡ files_in (view_of world id)
    same = shown_view world id (stands.aside world is)

    pub cell_reopened : (new : Cell) → MakesCell (shown_files world id) new → IsOpened new → Reopened (cells id) new
    cell_reopened new made opened = block_reopened (Fits known id) (view_of world id) (books id) (stands.fit id valid).fresh new
        (subst (λ (f : BlockFiles). MakesCell f new) same made) opened (cells id) own

    -- a replica's copy that is read of it stands on the replica's volume
    pub stays_on_volume : (replica : Replica) → cells id ≡ final replica → (books' : BlockBooks) → KeptOn (shown_files world id) books' replica → IsOnVolumeOf (books id) books'
    stays_on_volume replica holds books' kept = block_stays (Fits known id) (view_of world id) (books id) books' replica
        (subst (BooksFit volumes (books id)) holds (stands.fit id valid)) (subst (BlockStands (Fits known id) (view_of world id) (books id)) holds own)
        (subst (λ (f : BlockFiles). KeptOn f books' replica) same kept)

    world_allowed : AllowsFiles (cells id) (shown_files world id)
    world_allowed = subst (λ (f : BlockFiles). AllowsFiles (cells id) f) (sym same) (block_allows (Fits known id) (view_of world id) (books id) (cells id) own)

  -- what reads as one of its worlds, its cells allow
  pub reads_allowed : (image : Files) → ReadsAsOne told image → AllowsImage cells image
  reads_allowed image reads id valid =
      let allows = world_allowed reads.0 reads.1 id valid in
      record { read = allows.read; reads = reads.2.alike id valid allows.read allows.reads; allowed = allows.allowed }

  -- and is whole
  world_whole : (world : World) → IsWorldOf told world → HasWholeFiles world
  world_whole world is id valid =
      subst (λ (f : BlockFiles). (spot : Spot) (replica : Replica) → IsCopy f spot replica → IsAlone f spot) (sym (same world is id valid))
      (block_whole (Fits known id) (view_of world id) (books id) (cells id) (stands.fit id valid) (own world is id valid))

  pub reads_whole : (image : Files) → ReadsAsOne told image → OneWhole image
  reads_whole image reads = reads.2.whole (world_whole reads.0 reads.1)

-- what is known of the meta files is so in each world, and where they match, in the image
pub worlds_known : {told : Option (List World)} {volumes : ℕ} {books : ℕ → BlockBooks} {known : Knowledge} {cells : Cells} →
    PoolStands told volumes books known cells → InEachWorld told (HasFiles known)
worlds_known {books = books} {known = known} {cells = cells} stands world is id valid =
    subst (λ (f : BlockFiles). HasSoundCopies (Fits known id) f) (sym (shown_view world id (stands.aside world is)))
    (block_is_sound (Fits known id) (view_of world id) (books id) (cells id) (stands.blocks world is id valid))

pub reads_sound : {told : Option (List World)} {volumes : ℕ} {books : ℕ → BlockBooks} {cells : Cells} → PoolStands told volumes books matching cells →
    (image : Files) → ReadsAsOne told image → IsSound image
reads_sound stands image reads = reads.2.sound (worlds_known stands reads.0 reads.1)

-- ---- the line

-- the pool was opened again: no writer is open, and the session stands for what was found
pub carried_reopen : {Faulty : ℕ → ℕ → Type 0} {choosing choosing' : Choosing} {told told' : Option (List World)} {volumes volumes' : ℕ} {books books' : ℕ → BlockBooks}
    {writers writers' : ℕ → Option Writer} {state : RunState} {before after : Mark} {past since : ℕ → Files → Type 0} → Standing choosing told volumes books writers state →
    (opens : Opens told told' volumes' books' past since) → ChoosesAnew choosing.shares (first_revision choosing.next_rev) books' choosing' → length choosing.shares ≡ volumes' →
    ((id : ℕ) → writers' id ≡ None) → AddsOnly past since (ReadsAsOne told) → ((id : ℕ) → (books' id).ticket ≡ None) →
    LineCarried Faulty told state before (Node Reopen) Done after (Standing choosing' told' volumes' books' writers') (PoolStands told volumes books matching) (PoolStands told' volumes' books' matching) past since
carried_reopen {choosing = choosing} {choosing' = choosing'} {told = told} {volumes = volumes} {books = books} {books' = books'} {writers' = writers'} {state = state} standing opens anew shared none images free = record {
  new = opened_of opens.cells state.metas state.writers books' choosing';
  stands = stands_opened writers' opens (opens.stands_by (exactly state.metas) (worlds_known standing.pool)) state.writers none;
  does = λ trust known. record {
    done = refl;
    cells = by_trust trust known;
    metas = refl;
    writers = λ id. refl;
    choosing = subst (λ (c : Choosing). ChoosesAnew c.shares (first_revision c.next_rev) books' choosing') (sym standing.chooses_by) anew;
    placed = placed_by trust known;
    books = λ id valid. books_opened (length state.choosing.shares) (sym shared ∙ ap (λ (c : Choosing). length c.shares) (sym standing.chooses_by)) free opens.stands id valid (opens.opened id valid);
  };
  crash = record {
    images = λ t image s. elim (images t image s) [ inl earlier ↦ inl earlier | inr reads ↦ inr (inl (reads_allowed standing.pool image reads)) ];
    sound = λ was. opens.stands_by matching (worlds_known was);
    sound_images = λ was t image s. elim (images t image s) [ inl earlier ↦ inl earlier | inr reads ↦ inr (reads_sound was image reads) ];
    whole = λ t image s. elim (images t image s) [ inl earlier ↦ inl earlier | inr reads ↦ inr (reads_whole standing.pool image reads) ];
  };
}
  where
    by_telling : IsSome told → (id : ℕ) → IsBlockId id → Reopened (state.cells id) (opens.cells id)
    by_telling known =
        let shows = opens.shown known in
        λ id valid. cell_reopened standing.pool shows.world shows.is id valid (opens.cells id) (shows.made id valid) (opens.opened id valid)

    found_final : (id : ℕ) → IsBlockId id → IsSome told → (replica : Replica) → state.cells id ≡ final replica → opens.cells id ≡ final replica
    found_final id valid known replica holds = subst (λ (cell : Cell). Reopened cell (opens.cells id)) holds (by_telling known id valid)

    told_volumes : IsSome told → (id : ℕ) → IsBlockId id → (replica : Replica) → state.cells id ≡ final replica → IsOnVolumeOf (books id) (books' id)
    told_volumes known id valid replica holds =
        let shows = opens.shown known in
        stays_on_volume standing.pool shows.world shows.is id valid replica holds (books' id) (shows.placed id valid replica (found_final id valid known replica holds))

    on_volumes : IsSome told → StayOnVolumes state (opened_of opens.cells state.metas state.writers books' choosing')
    on_volumes known id valid replica holds = subst (λ (b : BlockBooks). IsOnVolumeOf b (books' id)) (sym (standing.said id)) (told_volumes known id valid replica holds)

    placed_by : (trust : Trust) → IsKnown (PoolStands told volumes books matching state.cells) trust told →
        VolumesReopened trust state (opened_of opens.cells state.metas state.writers books' choosing')
    placed_by any_disks known = tt
    placed_by telling_disks known = on_volumes known
    placed_by sound_disks known = on_volumes known.0

    by_trust : (trust : Trust) → IsKnown (PoolStands told volumes books matching state.cells) trust told → CellsReopened trust state.cells opens.cells
    by_trust any_disks known = opens.opened
    by_trust telling_disks known = by_telling known
    by_trust sound_disks known = by_telling known.0

-- it wasn't: what a crash can leave, the cells before allow
pub stays_reopen : {choosing : Choosing} {told : Option (List World)} {volumes : ℕ} {books : ℕ → BlockBooks} {writers : ℕ → Option Writer} {state : RunState} {past since : ℕ → Files → Type 0} →
    Standing choosing told volumes books writers state → AddsOnly past since (ReadsAsOne told) → StaysCrashSafe state.cells (PoolStands told volumes books matching) past since
stays_reopen standing images = record {
  images = λ t image s. elim (images t image s) [ inl earlier ↦ inl earlier | inr reads ↦ inr (reads_allowed standing.pool image reads) ];
  sound_images = λ was t image s. elim (images t image s) [ inl earlier ↦ inl earlier | inr reads ↦ inr (reads_sound was image reads) ];
  whole = λ t image s. elim (images t image s) [ inl earlier ↦ inl earlier | inr reads ↦ inr (reads_whole standing.pool image reads) ];
}

-- by what a call answered
pub on_ok : {T E P P' Q : Type 0} (result : Result T E) → (P → P' → Q) → OnOk result P → OnOk result P' → OnOk result Q
on_ok (Ok value) then holds also = then holds also
on_ok (Err fault) then holds also = tt

pub on_err : {T E Q : Type 0} (result : Result T E) → Q → OnErr result Q
on_err (Ok value) holds = tt
on_err (Err fault) holds = holds
