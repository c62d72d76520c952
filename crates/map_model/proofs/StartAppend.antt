-- `start_append` keeps what stands, at every exit and every moment.
use Rattle.std.proofs.Common.{◌≡◌, inl, inr, ℕ, ◌+◌, ◌<◌, true, false, List, [], ◌∷◌, length, Option, Some, None, refl, sym, ◌∙◌, subst}
use Rattle.std.specs.Prelude.{IfSome}
use Rattle.std.proofs.lemmas.Bool.{false≢true}
use Rattle.volume_layout.specs.Paths.{IsStamp}
use Rattle.volume_layout.proofs.Reading.{is_stamp-IsStamp}
use Rattle.map_model.specs.Cells.{Replica, Cell, final, growing}
use Rattle.volume_layout.specs.declared.block_file.BlockFile.{BlockFile}
use Rattle.volume_layout.specs.declared.block_file.BlockFile.TheVariants.{Block, Meta, WritingBlock, WritingMeta, TemporaryBlock, TemporaryMeta}
use Rattle.map_model.specs.Slots.{drafted, View}
use Rattle.map_model.specs.Stands.{EntryState, is_final, is_written, Entry, Leftover, Ticket, BlockBooks, StateNames, IsListed, Each, LeftoverFits, HasOwnLeftovers, IsFinalised, PairStands, WriterStands, Wanted, TicketStands, BlockStands}
use Rattle.map_model.specs.Tenures.{IsNew, books_of, Writer, writer_entry, block_left, meta_left, refused_block, base_of_entry, block_created, both_created, StartsAppend}
use Rattle.map_model.specs.Tenures.StartsAppend.{started, refused, block_failed, meta_failed, meta_memory}
use Rattle.map_model.proofs.SlotLemmas.{set_slot-here, standing-by}
use Rattle.map_model.proofs.Shrinks.{shrunk_told}
use Rattle.map_model.proofs.Waiting.{IsWriting, unwanted_ticket}
use Rattle.map_model.proofs.StartWrite.{Adds, adds_finalised, adds_ticket, none_left, writing_named, adds_none, adds_block, adds_block_two, adds_both}

final_finalised : (stamp : ℕ) (f : BlockFile) → StateNames is_final stamp f → IsFinalised f
final_finalised stamp Block names = tt
final_finalised stamp (Meta s) names = tt
final_finalised stamp WritingBlock names = names
final_finalised stamp (WritingMeta s) names = names
final_finalised stamp TemporaryBlock names = names
final_finalised stamp (TemporaryMeta s) names = names

writing_not_final : (f : BlockFile) → IsWriting f → IsFinalised f → ⊥
writing_not_final Block is it = is
writing_not_final (Meta s) is it = is
writing_not_final WritingBlock is it = it
writing_not_final (WritingMeta s) is it = it
writing_not_final TemporaryBlock is it = is
writing_not_final (TemporaryMeta s) is it = is

-- the names of the leftovers don't matter to what was added
adds_named : (view after : View) (leftovers rest : List Leftover) → ((v : ℕ) (f : BlockFile) → IsListed leftovers v f → IsListed rest v f) →
    ((v : ℕ) (f : BlockFile) → IsListed rest v f → IsListed leftovers v f) → Adds view after leftovers → Adds view after rest
adds_named view after leftovers rest there back adds = record {
  slots = λ v f. elim (adds.slots v f) [ inl same ↦ inl same | inr new ↦ inr (new.0, there v f new.1) ];
  only = λ v f listed. adds.only v f (back v f listed);
}

module _ (M : List ℕ → Replica → Type 0) (view after : View) (ticket : Option Ticket) (entry : Entry) (replica : Replica) (leftovers : List Leftover)
    (stands : BlockStands M view (books_of (Some entry) [] ticket) (final replica)) (adds : Adds view after leftovers) where
  entry_finalised : (f : BlockFile) → StateNames entry.state entry.stamp f → IsFinalised f
  entry_finalised f names = final_finalised entry.stamp f (subst (λ s. StateNames s entry.stamp f) stands.agrees.0 names)

  same_pair : PairStands M after entry.vol replica
  same_pair = record {
    block_file = adds_finalised view after leftovers adds entry.vol Block tt ∙ stands.content.0.block_file;
    content = stands.content.0.content;
    meta_file = adds_finalised view after leftovers adds entry.vol (Meta replica.stamp) tt ∙ stands.content.0.meta_file;
    matches = stands.content.0.matches;
  }

  added_ticket : ((v : ℕ) (f : BlockFile) → IsListed leftovers v f → v ≡ entry.vol) → IfSome ticket (λ t. TicketStands after (Some entry) leftovers t)
  added_ticket on_vol = tickets ticket stands.ticket where
    tickets : (o : Option Ticket) → IfSome o (λ t. TicketStands view (Some entry) [] t) → IfSome o (λ t. TicketStands after (Some entry) leftovers t)
    tickets None has = tt
    tickets (Some t) has =
        let none : TicketStands view None [] t = record { block_draft = has.block_draft; meta_draft = has.meta_draft; wanted = tt } in
        let moved : TicketStands after None leftovers t = adds_ticket view after leftovers (Some t) adds none in
        record {
          block_draft = moved.block_draft;
          meta_draft = moved.meta_draft;
          wanted = λ wants.
              let w : Wanted view [] t entry = has.wanted wants in
              record {
                elsewhere = w.elsewhere;
                clear = λ f listed. w.elsewhere (sym (on_vol t.dest f listed));
                told = shrunk_told view after t entry entry.state
                    (λ f names. adds_finalised view after leftovers adds entry.vol f (entry_finalised f names)) w.told;
              };
        }

  -- a start that was refused: its files are leftovers
  refused_stands : ((v : ℕ) (f : BlockFile) → IsListed leftovers v f → v ≡ entry.vol) → Each (LeftoverFits (Some entry)) leftovers →
      BlockStands M after (books_of (Some entry) leftovers ticket) (final replica)
  refused_stands on_vol fits = record {
    agrees = stands.agrees;
    content = (same_pair, λ v f is listed there. absurd (writing_not_final f (adds.only v f listed) is));
    accounted = λ v f there. elim (adds.slots v f) [
      | inl same ↦ elim (stands.accounted v f (standing-by (view v f) (after v f) (sym same) there)) [
        | inl names ↦ inl names
        | inr listed ↦ absurd listed
      ]
      | inr new ↦ inr new.1
    ];
    apart = λ v f listed names. elim names [
      | inl own ↦ writing_not_final f (adds.only v f listed) (entry_finalised f own.1)
      | inr moved ↦ writing_named ticket v f (adds.only v f listed) (inr moved)
    ];
    leftovers = fits;
    settled = λ v f number is drafts. stands.settled v f number is (sym (adds_finalised view after leftovers adds v f is) ∙ drafts);
    stamp = stands.stamp;
    writer = subst (λ s. WriterStands after entry s) (sym stands.agrees.0) tt;
    ticket = added_ticket on_vol;
  }

-- EVERY EXIT of `start_append` keeps what stands
module _ (M : List ℕ → Replica → Type 0) (view : View) (ticket : Option Ticket) (entry : Entry) (replica : Replica) (writer : Writer) (more : ℕ)
    (stands : BlockStands M view (books_of (Some entry) [] ticket) (final replica))
    (same_vol : writer.vol ≡ entry.vol) (stamped : IsStamp writer.stamp) (newer : entry.stamp < writer.stamp)
    (len : writer.len ≡ length replica.bytes + more) (new : IsNew ticket writer.rev) where
  own_left : HasOwnLeftovers entry.state
  own_left = subst HasOwnLeftovers (sym stands.agrees.0) tt

  fits_one : LeftoverFits (Some entry) (refused_block writer)
  fits_one = record { valid = refl; held = λ h. absurd (false≢true h); place = own_left }

  fits_other : LeftoverFits (Some entry) (meta_left writer false)
  fits_other = record { valid = is_stamp-IsStamp writer.stamp stamped; held = λ h. absurd (false≢true h); place = own_left }

  one_vol : (v : ℕ) (f : BlockFile) → IsListed (refused_block writer ∷ []) v f → v ≡ entry.vol
  one_vol v f (inl here) = sym here.0 ∙ same_vol
  one_vol v f (inr later) = absurd later

  two_vol : (v : ℕ) (f : BlockFile) → IsListed (refused_block writer ∷ meta_left writer false ∷ []) v f → v ≡ entry.vol
  two_vol v f (inl here) = sym here.0 ∙ same_vol
  two_vol v f (inr (inl here)) = sym here.0 ∙ same_vol
  two_vol v f (inr (inr later)) = absurd later

  refused_one : (after : View) → Adds view after (block_left writer true ∷ []) →
      BlockStands M after (books_of (Some entry) (refused_block writer ∷ []) ticket) (final replica)
  refused_one after adds = refused_stands M view after ticket entry replica (refused_block writer ∷ []) stands
      (adds_named view after (block_left writer true ∷ []) (refused_block writer ∷ []) (λ v f listed. listed) (λ v f listed. listed) adds)
      one_vol (fits_one, tt)

  refused_two : (after : View) → Adds view after (block_left writer true ∷ meta_left writer true ∷ []) →
      BlockStands M after (books_of (Some entry) (refused_block writer ∷ meta_left writer false ∷ []) ticket) (final replica)
  refused_two after adds = refused_stands M view after ticket entry replica (refused_block writer ∷ meta_left writer false ∷ []) stands
      (adds_named view after (block_left writer true ∷ meta_left writer true ∷ []) (refused_block writer ∷ meta_left writer false ∷ []) (λ v f listed. listed) (λ v f listed. listed) adds)
      two_vol (fits_one, (fits_other, tt))

  named_by_writer : (f : BlockFile) → StateNames is_final entry.stamp f →
      StateNames (is_written (Some (base_of_entry entry)) writer.block_number writer.meta_number) writer.stamp f
  named_by_writer Block names = tt
  named_by_writer (Meta s) names = names
  named_by_writer WritingBlock names = absurd names
  named_by_writer (WritingMeta s) names = absurd names
  named_by_writer TemporaryBlock names = absurd names
  named_by_writer (TemporaryMeta s) names = absurd names

  none_wanted : (o : Option Ticket) → IfSome o (λ t. TicketStands view (Some entry) [] t) → IfSome o (λ t. TicketStands view None [] t)
  none_wanted None has = tt
  none_wanted (Some t) has = record { block_draft = has.block_draft; meta_draft = has.meta_draft; wanted = tt }

  started_append : BlockStands M (both_created view writer)
      (books_of (Some (writer_entry writer (is_written (Some (base_of_entry entry)) writer.block_number writer.meta_number))) [] ticket)
      (growing writer.stamp (Some replica) replica.bytes more)
  started_append =
      let both : View = both_created view writer in
      let two : List Leftover = block_left writer true ∷ meta_left writer true ∷ [] in
      let adds : Adds view both two = adds_both view writer in
      let state : EntryState = is_written (Some (base_of_entry entry)) writer.block_number writer.meta_number in
      record {
        agrees = (refl, len, (stands.agrees.1, stands.agrees.2, newer));
        content = subst (λ n. PairStands M both n replica) (sym same_vol) (same_pair M view both ticket entry replica two stands adds);
        accounted = λ v f there. elim (adds.slots v f) [
          | inl same ↦ elim (stands.accounted v f (standing-by (view v f) (both v f) (sym same) there)) [
            | inl (inl named) ↦ inl (inl (same_vol ∙ named.0, named_by_writer f (subst (λ s. StateNames s entry.stamp f) stands.agrees.0 named.1)))
            | inl (inr moved) ↦ inl (inr moved)
            | inr listed ↦ absurd listed
          ]
          | inr (is, inl here) ↦ inl (inl (here.0, subst (λ g. StateNames state writer.stamp g) here.1 tt))
          | inr (is, inr (inl here)) ↦ inl (inl (here.0, subst (λ g. StateNames state writer.stamp g) here.1 refl))
          | inr (is, inr (inr later)) ↦ absurd later
        ];
        apart = λ v f listed names. listed;
        leftovers = tt;
        settled = λ v f number is drafts. stands.settled v f number is (sym (adds_finalised view both two adds v f is) ∙ drafts);
        stamp = (stamped, stands.stamp.0);
        writer = (
          set_slot-here view writer.vol WritingBlock (drafted writer.block_number),
          set_slot-here (block_created view writer) writer.vol (WritingMeta writer.stamp) (drafted writer.meta_number),
        );
        ticket = unwanted_ticket both (writer_entry writer state) [] ticket new
            (none_left view both ticket two adds (none_wanted ticket stands.ticket));
      }

  pub start_append_stands : (after : View) (books : BlockBooks) (cell : Cell) → StartsAppend view ticket entry replica writer more after books cell → BlockStands M after books cell
  start_append_stands after books cell started = started_append
  start_append_stands after books cell refused = stands
  start_append_stands after books cell (block_failed next (inl same)) =
      refused_one next (subst (λ v. Adds view v (block_left writer true ∷ [])) (sym same) (adds_none view writer))
  start_append_stands after books cell (block_failed next (inr same)) =
      refused_one next (subst (λ v. Adds view v (block_left writer true ∷ [])) (sym same) (adds_block view writer))
  start_append_stands after books cell (meta_failed next (inl same)) =
      refused_two next (subst (λ v. Adds view v (block_left writer true ∷ meta_left writer true ∷ [])) (sym same) (adds_block_two view writer))
  start_append_stands after books cell (meta_failed next (inr same)) =
      refused_two next (subst (λ v. Adds view v (block_left writer true ∷ meta_left writer true ∷ [])) (sym same) (adds_both view writer))
  start_append_stands after books cell meta_memory = refused_one (block_created view writer) (adds_block view writer)
