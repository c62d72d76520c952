-- `start_write` keeps what stands, at every exit; and each of its moments stands for a waiting block, of which nothing is read.
use Rattle.std.proofs.Common.{◌≡◌, ◌⊎◌, inl, inr, ℕ, true, List, [], ◌∷◌, Option, Some, None, refl, sym, ◌∙◌, subst, arith}
use Rattle.std.specs.Prelude.{IsTrue, IfSome}
use Rattle.volume_layout.specs.Paths.{IsStamp}
use Rattle.volume_layout.proofs.Reading.{is_stamp-IsStamp}
use Rattle.map_model.specs.Cells.{Replica, Cell, absent, growing, waiting}
use Rattle.map_model.specs.Allows.{AllowsFiles}
use Rattle.volume_layout.specs.declared.block_file.BlockFile.{BlockFile}
use Rattle.volume_layout.specs.declared.block_file.BlockFile.TheVariants.{Block, Meta, WritingBlock, WritingMeta, TemporaryBlock, TemporaryMeta}
use Rattle.map_model.specs.Slots.{drafted, is_standing, View, files_in}
use Rattle.map_model.specs.Stands.{is_written, is_waiting, Entry, Leftover, Ticket, BlockBooks, StateNames, MoveNames, Names, IsListed, Each, LeftoverFits, IsFinalised, TicketStands, BlockStands}
use Rattle.map_model.specs.Tenures.{IsNew, books_of, Writer, writer_entry, block_left, meta_left, block_created, both_created, StartsWrite, started, block_failed, block_memory, meta_failed, meta_memory}
use Rattle.map_model.proofs.SlotLemmas.{set_slot-cases, set_slot-here, standing-by}
use Rattle.map_model.proofs.Owned.{own_file}
use Rattle.map_model.proofs.KeyLaw.{files_allow}
use Rattle.map_model.proofs.Waiting.{IsWriting, waits_stands, unwanted_ticket, reads_no_more}

-- the view has at most these leftovers more, all of them a writer's files
pub record Adds (before after : View) (leftovers : List Leftover) : Type 0 where
  pub slots : (v : ℕ) (f : BlockFile) → (after v f ≡ before v f) ⊎ (IsWriting f × IsListed leftovers v f)
  pub only : (v : ℕ) (f : BlockFile) → IsListed leftovers v f → IsWriting f

writing_moved : (stamp : ℕ) (f : BlockFile) → IsWriting f → MoveNames stamp f → ⊥
writing_moved stamp Block is names = names
writing_moved stamp (Meta s) is names = names
writing_moved stamp WritingBlock is names = names
writing_moved stamp (WritingMeta s) is names = names
writing_moved stamp TemporaryBlock is names = is
writing_moved stamp (TemporaryMeta s) is names = is

pub writing_named : (ticket : Option Ticket) (v : ℕ) (f : BlockFile) → IsWriting f → Names None ticket v f → ⊥
writing_named ticket v f is (inl names) = names
writing_named None v f is (inr names) = names
writing_named (Some t) v f is (inr names) = writing_moved t.stamp f is names.1

writing_finalised : (f : BlockFile) → IsWriting f → IsFinalised f → ⊥
writing_finalised Block is final = is
writing_finalised (Meta s) is final = is
writing_finalised WritingBlock is final = final
writing_finalised (WritingMeta s) is final = final
writing_finalised TemporaryBlock is final = is
writing_finalised (TemporaryMeta s) is final = is

-- a finalised file is as before
pub adds_finalised : (before after : View) (leftovers : List Leftover) → Adds before after leftovers → (v : ℕ) (f : BlockFile) → IsFinalised f → after v f ≡ before v f
adds_finalised before after leftovers adds v f is =
    elim (adds.slots v f) [
      | inl same ↦ same
      | inr new ↦ absurd (writing_finalised f new.0 is)
    ]

pub adds_ticket : (before after : View) (leftovers : List Leftover) (ticket : Option Ticket) → Adds before after leftovers →
    IfSome ticket (λ t. TicketStands before None [] t) → IfSome ticket (λ t. TicketStands after None leftovers t)
adds_ticket before after leftovers None adds stands = tt
adds_ticket before after leftovers (Some t) adds stands = record {
  block_draft = elim (adds.slots t.dest TemporaryBlock) [
    | inl same ↦ same ∙ stands.block_draft
    | inr new ↦ absurd new.0
  ];
  meta_draft = elim (adds.slots t.dest (TemporaryMeta t.stamp)) [
    | inl same ↦ same ∙ stands.meta_draft
    | inr new ↦ absurd new.0
  ];
  wanted = tt;
}

-- an absent block to which a writer's files came, and which waits
pub start_waits : (M : List ℕ → Replica → Type 0) (before after : View) (ticket : Option Ticket) (writer : Writer) (leftovers : List Leftover) →
    BlockStands M before (books_of None [] ticket) absent → IsStamp writer.stamp → IsNew ticket writer.rev →
    Adds before after leftovers → Each (LeftoverFits (Some (writer_entry writer is_waiting))) leftovers →
    BlockStands M after (books_of (Some (writer_entry writer is_waiting)) leftovers ticket) waiting
start_waits M before after ticket writer leftovers stands stamped new adds fits =
    waits_stands M after (writer_entry writer is_waiting) leftovers ticket (record {
      state = refl;
      stamp = stamped;
      none = λ vol stamp b m.
          let stood : IsTrue (is_standing (before vol Block)) =
          standing-by (before vol Block) (after vol Block) (sym (adds_finalised before after leftovers adds vol Block tt)) b in
          absurd (own_file M before (books_of None [] ticket) absent stands vol Block tt stood);
      accounted = λ v f there. elim (adds.slots v f) [
        | inl same ↦ elim (stands.accounted v f (standing-by (before v f) (after v f) (sym same) there)) [
          | inl names ↦ inl names
          | inr listed ↦ absurd listed
        ]
        | inr it ↦ inr it.1
      ];
      apart = λ v f listed. writing_named ticket v f (adds.only v f listed);
      leftovers_fit = fits;
      settled = λ v f number is drafts. stands.settled v f number is (sym (adds_finalised before after leftovers adds v f is) ∙ drafts);
      ticket_stands = adds_ticket before after leftovers ticket adds stands.ticket;
      unwanted = new;
    })

pub at_writing : (f g : BlockFile) → f ≡ g → IsWriting f → IsWriting g
at_writing f g same = subst IsWriting same

-- the moments: before the creations, between them, and after
module _ (view : View) (writer : Writer) where
  only_one : (v : ℕ) (f : BlockFile) → IsListed (block_left writer true ∷ []) v f → IsWriting f
  only_one v f (inl here) = at_writing WritingBlock f here.1 tt
  only_one v f (inr later) = absurd later

  only_two : (v : ℕ) (f : BlockFile) → IsListed (block_left writer true ∷ meta_left writer true ∷ []) v f → IsWriting f
  only_two v f (inl here) = at_writing WritingBlock f here.1 tt
  only_two v f (inr (inl here)) = at_writing (WritingMeta writer.stamp) f here.1 tt
  only_two v f (inr (inr later)) = absurd later

  pub adds_none : Adds view view (block_left writer true ∷ [])
  adds_none = record { slots = λ v f. inl refl; only = only_one }

  pub adds_block : Adds view (block_created view writer) (block_left writer true ∷ [])
  adds_block = record {
    slots = λ v f. elim (set_slot-cases view writer.vol WritingBlock (drafted writer.block_number) v f) [
      | inl here ↦ inr (at_writing WritingBlock f here.1 tt, inl (here.0, here.1))
      | inr same ↦ inl same
    ];
    only = only_one;
  }

  pub adds_block_two : Adds view (block_created view writer) (block_left writer true ∷ meta_left writer true ∷ [])
  adds_block_two = record {
    slots = λ v f. elim (set_slot-cases view writer.vol WritingBlock (drafted writer.block_number) v f) [
      | inl here ↦ inr (at_writing WritingBlock f here.1 tt, inl (here.0, here.1))
      | inr same ↦ inl same
    ];
    only = only_two;
  }

  pub adds_both : Adds view (both_created view writer) (block_left writer true ∷ meta_left writer true ∷ [])
  adds_both = record {
    slots = λ v f. elim (set_slot-cases (block_created view writer) writer.vol (WritingMeta writer.stamp) (drafted writer.meta_number) v f) [
      | inl here ↦ inr (at_writing (WritingMeta writer.stamp) f here.1 tt, inr (inl (here.0, here.1)))
      | inr same ↦ elim (adds_block_two.slots v f) [
        | inl before ↦ inl (same ∙ before)
        | inr new ↦ inr new
      ]
    ];
    only = only_two;
  }

pub fits_block : (writer : Writer) → LeftoverFits (Some (writer_entry writer is_waiting)) (block_left writer true)
fits_block writer = record { valid = refl; held = λ h. refl; place = tt }

pub fits_meta : (writer : Writer) → IsStamp writer.stamp → LeftoverFits (Some (writer_entry writer is_waiting)) (meta_left writer true)
fits_meta writer stamped = record { valid = is_stamp-IsStamp writer.stamp stamped; held = λ h. refl; place = tt }

pub none_left : (before after : View) (ticket : Option Ticket) (leftovers : List Leftover) → Adds before after leftovers →
    IfSome ticket (λ t. TicketStands before None [] t) → IfSome ticket (λ t. TicketStands after None [] t)
none_left before after None leftovers adds stands = tt
none_left before after (Some t) leftovers adds stands =
    let it : TicketStands after None leftovers t = adds_ticket before after leftovers (Some t) adds stands in
    record { block_draft = it.block_draft; meta_draft = it.meta_draft; wanted = tt }

-- a started writer
started_stands : (M : List ℕ → Replica → Type 0) (view : View) (ticket : Option Ticket) (writer : Writer) →
    BlockStands M view (books_of None [] ticket) absent → IsStamp writer.stamp → IsNew ticket writer.rev →
    BlockStands M (both_created view writer)
    (books_of (Some (writer_entry writer (is_written None writer.block_number writer.meta_number))) [] ticket) (growing writer.stamp None [] writer.len)
started_stands M view ticket writer stands stamped new =
    let both : View = both_created view writer in
    let entry : Entry = writer_entry writer (is_written None writer.block_number writer.meta_number) in
    let two : List Leftover = block_left writer true ∷ meta_left writer true ∷ [] in
    let adds : Adds view both two = adds_both view writer in
    record {
      agrees = (refl, omega arith, tt);
      content = tt;
      accounted = λ v f there. elim (adds.slots v f) [
        | inl same ↦ elim (stands.accounted v f (standing-by (view v f) (both v f) (sym same) there)) [
          | inl (inl names) ↦ absurd names
          | inl (inr names) ↦ inl (inr names)
          | inr listed ↦ absurd listed
        ]
        | inr (is, inl here) ↦ inl (inl (here.0, subst (λ g. StateNames entry.state entry.stamp g) here.1 tt))
        | inr (is, inr (inl here)) ↦ inl (inl (here.0, subst (λ g. StateNames entry.state entry.stamp g) here.1 refl))
        | inr (is, inr (inr later)) ↦ absurd later
      ];
      apart = λ v f listed names. listed;
      leftovers = tt;
      settled = λ v f number is drafts. stands.settled v f number is (sym (adds_finalised view both two adds v f is) ∙ drafts);
      stamp = (stamped, tt);
      writer = (
        set_slot-here view writer.vol WritingBlock (drafted writer.block_number),
        set_slot-here (block_created view writer) writer.vol (WritingMeta writer.stamp) (drafted writer.meta_number),
      );
      ticket = unwanted_ticket both entry [] ticket new (none_left view both ticket two adds stands.ticket);
    }

-- EVERY EXIT of `start_write` keeps what stands
pub start_write_stands : (M : List ℕ → Replica → Type 0) (view : View) (ticket : Option Ticket) (writer : Writer) (after : View) (books : BlockBooks) (cell : Cell) →
    BlockStands M view (books_of None [] ticket) absent → IsStamp writer.stamp → IsNew ticket writer.rev →
    StartsWrite view ticket writer after books cell → BlockStands M after books cell
start_write_stands M view ticket writer after books cell stands stamped new started = started_stands M view ticket writer stands stamped new
start_write_stands M view ticket writer after books cell stands stamped new (block_failed next (inl same)) =
    subst (λ v. BlockStands M v (books_of (Some (writer_entry writer is_waiting)) (block_left writer true ∷ []) ticket) waiting) (sym same)
    (start_waits M view view ticket writer (block_left writer true ∷ []) stands stamped new (adds_none view writer) (fits_block writer, tt))
start_write_stands M view ticket writer after books cell stands stamped new (block_failed next (inr same)) =
    subst (λ v. BlockStands M v (books_of (Some (writer_entry writer is_waiting)) (block_left writer true ∷ []) ticket) waiting) (sym same)
    (start_waits M view (block_created view writer) ticket writer (block_left writer true ∷ []) stands stamped new (adds_block view writer) (fits_block writer, tt))
start_write_stands M view ticket writer after books cell stands stamped new block_memory = stands
start_write_stands M view ticket writer after books cell stands stamped new (meta_failed next (inl same)) =
    subst (λ v. BlockStands M v (books_of (Some (writer_entry writer is_waiting)) (block_left writer true ∷ meta_left writer true ∷ []) ticket) waiting) (sym same)
    (start_waits M view (block_created view writer) ticket writer (block_left writer true ∷ meta_left writer true ∷ []) stands stamped new
    (adds_block_two view writer) (fits_block writer, (fits_meta writer stamped, tt)))
start_write_stands M view ticket writer after books cell stands stamped new (meta_failed next (inr same)) =
    subst (λ v. BlockStands M v (books_of (Some (writer_entry writer is_waiting)) (block_left writer true ∷ meta_left writer true ∷ []) ticket) waiting) (sym same)
    (start_waits M view (both_created view writer) ticket writer (block_left writer true ∷ meta_left writer true ∷ []) stands stamped new
    (adds_both view writer) (fits_block writer, (fits_meta writer stamped, tt)))
start_write_stands M view ticket writer after books cell stands stamped new meta_memory =
    start_waits M view (block_created view writer) ticket writer (block_left writer true ∷ []) stands stamped new (adds_block view writer) (fits_block writer, tt)

-- EVERY MOMENT of `start_write` is quiet: the cell before allows what is read
pub start_write_moments : (M : List ℕ → Replica → Type 0) (view : View) (ticket : Option Ticket) (writer : Writer) (after : View) (books : BlockBooks) (cell : Cell) →
    BlockStands M view (books_of None [] ticket) absent → IsStamp writer.stamp → IsNew ticket writer.rev →
    StartsWrite view ticket writer after books cell → AllowsFiles absent (files_in after)
start_write_moments M view ticket writer after books cell stands stamped new started =
    reads_no_more M (both_created view writer) (writer_entry writer is_waiting) (block_left writer true ∷ meta_left writer true ∷ []) ticket
    (start_waits M view (both_created view writer) ticket writer (block_left writer true ∷ meta_left writer true ∷ []) stands stamped new
    (adds_both view writer) (fits_block writer, (fits_meta writer stamped, tt)))
start_write_moments M view ticket writer after books cell stands stamped new (block_failed next fails) =
    reads_no_more M next (writer_entry writer is_waiting) (block_left writer true ∷ []) ticket
    (start_write_stands M view ticket writer next (books_of (Some (writer_entry writer is_waiting)) (block_left writer true ∷ []) ticket) waiting stands stamped new
    (block_failed next fails))
start_write_moments M view ticket writer after books cell stands stamped new block_memory = files_allow M view None [] ticket absent stands
start_write_moments M view ticket writer after books cell stands stamped new (meta_failed next fails) =
    reads_no_more M next (writer_entry writer is_waiting) (block_left writer true ∷ meta_left writer true ∷ []) ticket
    (start_write_stands M view ticket writer next (books_of (Some (writer_entry writer is_waiting)) (block_left writer true ∷ meta_left writer true ∷ []) ticket) waiting
    stands stamped new (meta_failed next fails))
start_write_moments M view ticket writer after books cell stands stamped new meta_memory =
    reads_no_more M (block_created view writer) (writer_entry writer is_waiting) (block_left writer true ∷ []) ticket
    (start_waits M view (block_created view writer) ticket writer (block_left writer true ∷ []) stands stamped new (adds_block view writer) (fits_block writer, tt))
