-- What must be shown of a block that waits to be deleted.
use Rattle.std.proofs.Common.{◌≡◌, ◌⊎◌, inl, inr, ℕ, List, Option, Some, None, sym, subst}
use Rattle.std.specs.Prelude.{IsTrue, IfSome}
use Rattle.volume_layout.specs.Paths.{IsStamp}
use Rattle.map_model.specs.Cells.{Replica, absent, waiting}
use Rattle.volume_layout.specs.declared.block_file.BlockFile.{BlockFile}
use Rattle.volume_layout.specs.declared.block_file.BlockFile.TheVariants.{Block, Meta, WritingBlock, WritingMeta, TemporaryBlock, TemporaryMeta}
use Rattle.map_model.specs.Slots.{drafted, is_standing, View, files_in}
use Rattle.map_model.specs.Stands.{EntryState, is_waiting, Entry, Leftover, Ticket, base_of, StateNames, WriterStands, Names, IsListed, Each, LeftoverFits, HasNoPair, IsFinalised, TicketStands, BlockStands}
use Rattle.map_model.specs.Tenures.{books_of, IsNew}
use Rattle.map_model.specs.Allows.{AllowsFiles}
use Rattle.map_model.proofs.KeyLaw.{files_allow}

abbrev pub IsWriting : BlockFile → Type 0
IsWriting WritingBlock = Unit {0}
IsWriting (WritingMeta stamp) = Unit {0}
IsWriting file = ⊥

-- a block that waits: what must be shown
pub record Waits (view : View) (entry : Entry) (leftovers : List Leftover) (ticket : Option Ticket) : Type 0 where
  pub state : entry.state ≡ is_waiting
  pub stamp : IsStamp entry.stamp
  pub none : HasNoPair view
  pub accounted : (v : ℕ) (f : BlockFile) → IsTrue (is_standing (view v f)) → Names None ticket v f ⊎ IsListed leftovers v f
  pub apart : (v : ℕ) (f : BlockFile) → IsListed leftovers v f → Names None ticket v f → ⊥
  pub leftovers_fit : Each (LeftoverFits (Some entry)) leftovers
  pub settled : (v : ℕ) (f : BlockFile) (number : ℕ) → IsFinalised f → view v f ≡ drafted number → ⊥
  pub ticket_stands : IfSome ticket (λ t. TicketStands view None leftovers t)
  pub unwanted : IsNew ticket entry.rev

pub waiting_none : (stamp : ℕ) (f : BlockFile) → StateNames is_waiting stamp f → ⊥
waiting_none stamp Block names = names
waiting_none stamp (Meta s) names = names
waiting_none stamp WritingBlock names = names
waiting_none stamp (WritingMeta s) names = names
waiting_none stamp TemporaryBlock names = names
waiting_none stamp (TemporaryMeta s) names = names

waiting_names : (ticket : Option Ticket) (entry : Entry) (v : ℕ) (f : BlockFile) → entry.state ≡ is_waiting → Names (Some entry) ticket v f → Names None ticket v f
waiting_names ticket entry v f state (inl names) =
    let P : EntryState → Type 0 = λ s. StateNames s entry.stamp f in
    let none : StateNames is_waiting entry.stamp f = subst P state names.1 in
    absurd (waiting_none entry.stamp f none)
waiting_names ticket entry v f state (inr names) = inr names

-- a move that wants another revision wants nothing of the entry
pub unwanted_ticket : (view : View) (entry : Entry) (leftovers : List Leftover) (ticket : Option Ticket) →
    IsNew ticket entry.rev → IfSome ticket (λ t. TicketStands view None leftovers t) → IfSome ticket (λ t. TicketStands view (Some entry) leftovers t)
unwanted_ticket view entry leftovers None new stands = tt
unwanted_ticket view entry leftovers (Some t) new stands =
    record { block_draft = stands.block_draft; meta_draft = stands.meta_draft; wanted = λ same. absurd (new same) }

pub waits_stands : (M : List ℕ → Replica → Type 0) (view : View) (entry : Entry) (leftovers : List Leftover) (ticket : Option Ticket) →
    Waits view entry leftovers ticket → BlockStands M view (books_of (Some entry) leftovers ticket) waiting
waits_stands M view entry leftovers ticket waits = record {
  agrees = waits.state;
  content = waits.none;
  accounted = λ v f there. elim (waits.accounted v f there) [
    | inl (inl names) ↦ absurd names
    | inl (inr names) ↦ inl (inr names)
    | inr listed ↦ inr listed
  ];
  apart = λ v f listed names. waits.apart v f listed (waiting_names ticket entry v f waits.state names);
  leftovers = waits.leftovers_fit;
  settled = waits.settled;
  stamp = (waits.stamp, subst (λ s. IfSome (base_of s) (λ base. IsStamp base.stamp)) (sym waits.state) tt);
  writer = subst (λ s. WriterStands view entry s) (sym waits.state) tt;
  ticket = unwanted_ticket view entry leftovers ticket waits.unwanted waits.ticket_stands;
}

-- nothing is read of a block that waits, as of an absent one
pub reads_no_more : (M : List ℕ → Replica → Type 0) (view : View) (entry : Entry) (leftovers : List Leftover) (ticket : Option Ticket) →
    BlockStands M view (books_of (Some entry) leftovers ticket) waiting → AllowsFiles absent (files_in view)
reads_no_more M view entry leftovers ticket stands =
    let allows = files_allow M view (Some entry) leftovers ticket waiting stands in
    record { read = allows.read; reads = allows.reads; allowed = allows.allowed }
