-- What is read where one copy stands or none, and what must be shown of an unsure block that a writer left.
use Rattle.std.proofs.Common.{◌≡◌, ◌≢◌, ◌⊎◌, inl, inr, ℕ, Bool, List, [], ◌∷◌, Option, Some, None, refl, ap, sym, ◌∙◌, subst}
use Rattle.std.specs.Prelude.{IsTrue, IsSomeAnd, IfSome, is_some}
use Rattle.std.proofs.lemmas.Bool.{cases_eq}
use Rattle.std.proofs.lemmas.Option.{same_Some}
use Rattle.map_model.specs.Cells.{Replica, Cell, unsure}
use Rattle.map_model.specs.Copies.{own_spot, IsCopy, ReadsAs}
use Rattle.volume_layout.specs.declared.block_file.BlockFile.{BlockFile}
use Rattle.volume_layout.specs.declared.block_file.BlockFile.TheVariants.{Block, Meta, WritingBlock, WritingMeta, TemporaryBlock, TemporaryMeta}
use Rattle.map_model.specs.Slots.{Slot, empty, holds, drafted, is_standing, bytes_in, View, files_in}
use Rattle.map_model.specs.Stands.{Base, is_final, is_written, in_doubt, is_waiting, Entry, Leftover, Ticket, StateNames, IsListed, Each, LeftoverFits, HasOwnLeftovers, MayBeLeft, IsFinalised, ReadsAsEither, TicketStands, BlockStands}
use Rattle.map_model.specs.Tenures.{IsNew, books_of, Writer, writer_entry}
use Rattle.map_model.proofs.OneReading.{IsCopy-unique, reads_only_copy}
use Rattle.map_model.proofs.Readings.{reads_nothing}
use Rattle.map_model.proofs.KeyLaw.{no_pair_files}
use Rattle.map_model.proofs.SlotLemmas.{bytes-standing, standing-by}
use Rattle.map_model.proofs.Owned.{each_listed, IsOwn}
use Rattle.map_model.proofs.Waiting.{unwanted_ticket}

-- a copy that stands matches its meta
abbrev pub CopiesMatch : (List ℕ → Replica → Type 0) → View → Type 0
CopiesMatch M view = (vol : ℕ) (replica : Replica) (content : List ℕ) → IsCopy (files_in view) (own_spot vol) replica →
    view vol (Meta replica.stamp) ≡ holds content → M content replica

abbrev pub NoBlock : View → Type 0
NoBlock view = (vol : ℕ) → IsTrue (is_standing (view vol Block)) → ⊥

pub nothing_read : (view : View) → NoBlock view → ReadsAs (files_in view) None
nothing_read view none = reads_nothing (files_in view) (no_pair_files view (λ vol stamp b m. none vol b))

pub nothing_copied : (M : List ℕ → Replica → Type 0) (view : View) → NoBlock view → CopiesMatch M view
nothing_copied M view none vol replica content copy is =
    absurd (none vol (bytes-standing (view vol Block) (ap is_some copy.block)))

-- the block file stands on one volume only, with a copy there
pub record OneCopy (M : List ℕ → Replica → Type 0) (view : View) (vol : ℕ) (replica : Replica) : Type 0 where
  pub copy : IsCopy (files_in view) (own_spot vol) replica
  pub content : List ℕ
  pub meta_file : view vol (Meta replica.stamp) ≡ holds content
  pub matches : M content replica
  pub elsewhere : (v : ℕ) → v ≢ vol → IsTrue (is_standing (view v Block)) → ⊥

none_in : (slot : Slot) → (IsTrue (is_standing slot) → ⊥) → bytes_in slot ≡ None
none_in empty gone = refl
none_in (holds bytes) gone = absurd (gone refl)
none_in (drafted number) gone = refl

pub one_read : (M : List ℕ → Replica → Type 0) (view : View) (vol : ℕ) (replica : Replica) → OneCopy M view vol replica → ReadsAs (files_in view) (Some replica)
one_read M view vol replica one =
    reads_only_copy (files_in view) (own_spot vol) replica one.copy
    (λ other away. none_in (view other.vol Block) (one.elsewhere other.vol (λ e. away (ap own_spot e))))

pub one_copied : (M : List ℕ → Replica → Type 0) (view : View) (vol : ℕ) (replica : Replica) → OneCopy M view vol replica → CopiesMatch M view
one_copied M view vol replica one v other content copy is =
    elim (cases_eq v vol) [
      | inl here ↦
          let P : ℕ → Type 0 = λ n. IsCopy (files_in view) (own_spot n) other in
          let it : other ≡ replica = IsCopy-unique (files_in view) (own_spot vol) other replica (subst P here copy) one.copy in
          let Q : ℕ → Type 0 = λ n. view n (Meta other.stamp) ≡ holds content in
          let R : Replica → Type 0 = λ r. view vol (Meta r.stamp) ≡ holds content in
          let found : view vol (Meta replica.stamp) ≡ holds content = subst R it (subst Q here is) in
          let same : Some one.content ≡ Some content = ap bytes_in (sym one.meta_file ∙ found) in
          let S : List ℕ → Type 0 = λ c. M c replica in
          let T : Replica → Type 0 = λ r. M content r in
          subst T (sym it) (subst S (same_Some one.content content same) one.matches)
      | inr away ↦ absurd (one.elsewhere v away (bytes-standing (view v Block) (ap is_some copy.block)))
    ]

-- an entry none of whose leftovers is its own
abbrev pub IsTidy : Option Entry → Type 0
IsTidy entry = IsSomeAnd entry (λ e. HasOwnLeftovers e.state) → ⊥

waiting_own : (entry : Option Entry) → IsSomeAnd entry (λ e. e.state ≡ is_waiting) → IsSomeAnd entry (λ e. HasOwnLeftovers e.state)
waiting_own None is = is
waiting_own (Some e) is = subst HasOwnLeftovers (sym is) tt

refit_place : (entry after : Option Entry) (f : BlockFile) → IsTidy entry → MayBeLeft entry f → MayBeLeft after f
refit_place entry after Block tidy may = absurd (tidy may)
refit_place entry after (Meta s) tidy may = absurd (tidy may)
refit_place entry after WritingBlock tidy may = absurd (tidy may)
refit_place entry after (WritingMeta s) tidy may = absurd (tidy may)
refit_place entry after TemporaryBlock tidy may = tt
refit_place entry after (TemporaryMeta s) tidy may = tt

refit : (entry after : Option Entry) (leftover : Leftover) → IsTidy entry → LeftoverFits entry leftover → LeftoverFits after leftover
refit entry after leftover tidy fits = record {
  valid = fits.valid;
  held = λ is. absurd (tidy (waiting_own entry (fits.held is)));
  place = refit_place entry after leftover.file tidy fits.place;
}

-- the leftovers of a tidy entry fit any entry after
pub refit_all : (entry after : Option Entry) (leftovers : List Leftover) → IsTidy entry → Each (LeftoverFits entry) leftovers → Each (LeftoverFits after) leftovers
refit_all entry after [] tidy each = tt
refit_all entry after (leftover ∷ rest) tidy each = (refit entry after leftover tidy each.0, refit_all entry after rest tidy each.1)

-- and are a move's files
own_left : (entry : Option Entry) (f : BlockFile) → IsTidy entry → MayBeLeft entry f → IsOwn f → ⊥
own_left entry Block tidy may own = tidy may
own_left entry (Meta s) tidy may own = tidy may
own_left entry WritingBlock tidy may own = tidy may
own_left entry (WritingMeta s) tidy may own = tidy may
own_left entry TemporaryBlock tidy may own = own
own_left entry (TemporaryMeta s) tidy may own = own

pub tidy_listed : (entry : Option Entry) (leftovers : List Leftover) → IsTidy entry → Each (LeftoverFits entry) leftovers →
    (v : ℕ) (f : BlockFile) → IsListed leftovers v f → IsOwn f → ⊥
tidy_listed entry leftovers tidy each v f listed own =
    let one = each_listed (LeftoverFits entry) leftovers v f each listed in
    own_left entry f tidy (subst (λ g. MayBeLeft entry g) one.3 one.1.place) own

-- a writer's entry is tidy, and no move wants it
pub written_unwanted : (view : View) (leftovers : List Leftover) (ticket : Option Ticket) (writer : Writer) (base : Option Base) →
    IfSome ticket (λ t. TicketStands view (Some (writer_entry writer (is_written base writer.block_number writer.meta_number))) leftovers t) → IsNew ticket writer.rev
written_unwanted view leftovers None writer base stands = tt
written_unwanted view leftovers (Some t) writer base stands = λ same. (stands.wanted same).told

-- the drafts of a move stay where the move's files do
pub moved_same : (before after : View) (entry : Option Entry) (leftovers rest : List Leftover) (ticket : Option Ticket) →
    ((v : ℕ) (f : BlockFile) → (IsOwn f → ⊥) → after v f ≡ before v f) →
    IfSome ticket (λ t. TicketStands before entry leftovers t) → IfSome ticket (λ t. TicketStands after None rest t)
moved_same before after entry leftovers rest None same stands = tt
moved_same before after entry leftovers rest (Some t) same stands = record {
  block_draft = same t.dest TemporaryBlock (λ own. own) ∙ stands.block_draft;
  meta_draft = same t.dest (TemporaryMeta t.stamp) (λ own. own) ∙ stands.meta_draft;
  wanted = tt;
}

written_doubt : (base : Option Base) (m n stamp : ℕ) (f : BlockFile) → StateNames (is_written base m n) stamp f → StateNames (in_doubt base) stamp f
written_doubt base m n stamp Block names = tt
written_doubt base m n stamp (Meta s) names = inr names
written_doubt base m n stamp WritingBlock names = tt
written_doubt base m n stamp (WritingMeta s) names = names
written_doubt base m n stamp TemporaryBlock names = names
written_doubt base m n stamp (TemporaryMeta s) names = names

pub doubt_own : (base : Option Base) (stamp : ℕ) (f : BlockFile) → StateNames (in_doubt base) stamp f → IsOwn f
doubt_own base stamp Block names = tt
doubt_own base stamp (Meta s) names = tt
doubt_own base stamp WritingBlock names = tt
doubt_own base stamp (WritingMeta s) names = tt
doubt_own base stamp TemporaryBlock names = names
doubt_own base stamp (TemporaryMeta s) names = names

-- a writer's block of which only files changed that an unsure entry names
pub record Doubts (M : List ℕ → Replica → Type 0) (before after : View) (writer : Writer) (base : Option Base) (x y : Option Replica) (cut : Bool) : Type 0 where
  pub slots : (v : ℕ) (f : BlockFile) → (after v f ≡ before v f) ⊎ ((writer.vol ≡ v) × StateNames (in_doubt base) writer.stamp f)
  pub settled : (v : ℕ) (f : BlockFile) (number : ℕ) → IsFinalised f → after v f ≡ drafted number → ⊥
  pub content : ReadsAsEither M after x y cut

pub doubts_stands : (M : List ℕ → Replica → Type 0) (before after : View) (leftovers : List Leftover) (ticket : Option Ticket) (writer : Writer)
    (base : Option Base) (x y : Option Replica) (cut : Bool) (cell : Cell) → Doubts M before after writer base x y cut →
    BlockStands M before (books_of (Some (writer_entry writer (is_written base writer.block_number writer.meta_number))) leftovers ticket) cell →
    BlockStands M after (books_of (Some (writer_entry writer (in_doubt base))) leftovers ticket) (unsure x y cut)
doubts_stands M before after leftovers ticket writer base x y cut cell doubts stands =
    let written : Option Entry = Some (writer_entry writer (is_written base writer.block_number writer.meta_number)) in
    let doubtful : Option Entry = Some (writer_entry writer (in_doubt base)) in
    record {
      agrees = tt;
      content = doubts.content;
      accounted = λ v f there. elim (doubts.slots v f) [
        | inl same ↦ elim (stands.accounted v f (standing-by (before v f) (after v f) (sym same) there)) [
          | inl (inl names) ↦ inl (inl (names.0, written_doubt base writer.block_number writer.meta_number writer.stamp f names.1))
          | inl (inr names) ↦ inl (inr names)
          | inr listed ↦ inr listed
        ]
        | inr new ↦ inl (inl new)
      ];
      apart = λ v f listed names. elim names [
        | inl own ↦ tidy_listed written leftovers (λ h. h) stands.leftovers v f listed (doubt_own base writer.stamp f own.1)
        | inr moved ↦ stands.apart v f listed (inr moved)
      ];
      leftovers = refit_all written doubtful leftovers (λ h. h) stands.leftovers;
      settled = doubts.settled;
      stamp = stands.stamp;
      writer = tt;
      ticket = unwanted_ticket after (writer_entry writer (in_doubt base)) leftovers ticket
          (written_unwanted before leftovers ticket writer base stands.ticket)
          (moved_same before after written leftovers leftovers ticket
          (λ v f moved. elim (doubts.slots v f) [ inl same ↦ same | inr new ↦ absurd (moved (doubt_own base writer.stamp f new.1)) ])
          stands.ticket);
    }

pub final_own : (stamp : ℕ) (f : BlockFile) → StateNames is_final stamp f → IsOwn f
final_own stamp Block names = tt
final_own stamp (Meta s) names = tt
final_own stamp WritingBlock names = tt
final_own stamp (WritingMeta s) names = tt
final_own stamp TemporaryBlock names = names
final_own stamp (TemporaryMeta s) names = names
