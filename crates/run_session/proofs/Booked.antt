-- What a command does to the books of its block, by what the calls of the pool say of theirs.
use Rattle.std.proofs.Common.{◌≡◌, ◌≢◌, ◌⊎◌, inl, inr, ℕ, List, [], length, Option, Some, None, false, Err, refl, sym, ◌∙◌, ap, subst}
use Rattle.disk_model.specs.Worlds.{World}
use Rattle.volume_layout.specs.Paths.{IsBlockId}
use Rattle.map_model.specs.Cells.{Replica, Cell, Cells, absent, final, growing, unsure, waiting}
use Rattle.map_model.specs.Sound.{Knowledge}
use Rattle.map_model.specs.Stands.{in_doubt, Agrees, Entry, Leftover, Ticket, BlockBooks}
use Rattle.map_model.specs.Steps.{Command, Reply as Answer, start_write, write, delete, failed, exists, no_block, is_writing, is_waiting, is_unsure, full, too_long, worn}
use Rattle.map_model.specs.Tenures.{books_of}
use Rattle.pair_draft.specs.Writers.{Writer}
use Rattle.pool_state.specs.declared.start_fault.StartFault.{StartFault}
use Rattle.pool_state.specs.declared.start_fault.StartFault.TheVariants.{Exists as WasThere, None as WasAbsent, Writing as WasWriting, Waiting as WasWaiting, Unsure as WasUnsure, Full as IsFull, TooLong as IsTooLong, Worn as IsWorn, Failed as HasFailed, Memory as NoMemory}
use Rattle.pool_state.specs.declared.deleting.DeleteFault.{DeleteFault}
use Rattle.pool_state.specs.declared.deleting.DeleteFault.TheVariants.{None as NotThere, Writing as IsWrittenNow, Failed as RemovalFailed}
use Rattle.pool_state.specs.Answers.{start_fault, delete_fault}
use Rattle.pool_state.specs.BookSteps.{no_books, in_state, with_replica, given_up, given_up_meta, being_written, half_started, left_started, BooksNotStarted, BooksDeleted}
use Rattle.replica_map.proofs.BlockSums.{sums_by}
use Rattle.pool_state.specs.Rooms.{Choosing, drawn, room_by, chosen}
use Rattle.pool_state.specs.Uses.{books_use, AreUses, IsRoomOf, IsChosen}
use Rattle.pool_state.specs.Stands.{with_cell, IsNotWaiting, PoolStands}
use Rattle.client_ops.specs.declared.writing.FillFault.{FillFault}
use Rattle.client_ops.specs.declared.writing.FillFault.TheVariants.{Failed as FillFailed, Memory as FillMemory}
use Rattle.client_ops.specs.declared.writing.OpReply.{OpReply}
use Rattle.client_ops.specs.declared.writing.OpReply.TheVariants.{Ok as EndsOk, Failed as EndsFailed, Memory as EndsMemory}
use Rattle.client_ops.specs.Writing.{op_answer, EndLeaves, BooksEnded}
use Rattle.run_model.specs.Books.{meta_left, StartLacked, WriteLacked, FinishDone, FinishFailed, StartDraws, WriteDraws, BookStep, Draws}
use Rattle.run_model.specs.State.{RunState}
use Rattle.run_session.specs.Standing.{Standing}
use Rattle.run_session.proofs.Stepping.{Changes, with_cell-here}

-- the books of one block change and those of all others stay, where those of the pool do; and so what is chosen by
pub books_change : {choosing now : Choosing} {told : Option (List World)} {volumes : ℕ} {books : ℕ → BlockBooks} {writers : ℕ → Option Writer} {state : RunState} →
    Standing choosing told volumes books writers state → (id : ℕ) {command : Command} {answer : Answer} {cell : Cell} {vol : ℕ} (new : ℕ → BlockBooks) →
    BookStep command answer cell vol choosing.next_rev (books id) (new id) × Draws command answer cell vol choosing now →
    ((other : ℕ) → other ≢ id → new other ≡ books other) → Changes id command answer cell vol state.choosing now state.books new
books_change {choosing} {now} {books = books} {state = state} standing id {command} {answer} {cell} {vol} new both others = record {
  books = record {
    own = subst (λ b. BookStep command answer cell vol state.choosing.next_rev b (new id)) (sym (standing.said id))
        (subst (λ (c : Choosing). BookStep command answer cell vol c.next_rev (books id) (new id)) (sym standing.chooses_by) both.0);
    others = λ other apart. others other apart ∙ sym (standing.said other);
  };
  choosing = subst (λ (c : Choosing). Draws command answer cell vol c now) (sym standing.chooses_by) both.1;
}

-- the books say nothing of an absent block
pub none_said : (entry : Option Entry) (leftovers : List Leftover) (ticket : Option Ticket) → Agrees entry absent → (IsNotWaiting entry → leftovers ≡ []) → ticket ≡ None →
    books_of entry leftovers ticket ≡ no_books
none_said None leftovers ticket agrees clean free = ap (λ l. books_of None l ticket) (clean tt) ∙ ap (λ t. books_of None [] t) free
none_said (Some entry) leftovers ticket agrees clean free = absurd agrees

-- so the books of a pool do
pub silent : {told : Option (List World)} {volumes : ℕ} {books : ℕ → BlockBooks} {known : Knowledge} {cells : Cells} (id : ℕ) → IsBlockId id → PoolStands told volumes books known cells →
    cells id ≡ absent → (books id).ticket ≡ None → books id ≡ no_books
silent {books = books} id valid pool is free =
    let fit = pool.fit id valid in
    none_said (books id).entry (books id).leftovers (books id).ticket (subst (λ c. Agrees (books id).entry c) is fit.agrees) fit.clean free

-- the books agree with the cell that was put
pub agrees_here : {told : Option (List World)} {volumes : ℕ} {books : ℕ → BlockBooks} {known : Knowledge} (cells : Cells) (id : ℕ) (cell : Cell) → IsBlockId id →
    PoolStands told volumes books known (with_cell cells id cell) → Agrees (books id).entry cell
agrees_here {books = books} cells id cell valid pool = subst (λ c. Agrees (books id).entry c) (with_cell-here cells id cell) (pool.fit id valid).agrees

-- a start that found no memory, of a block of which the books said nothing
start_lacked : (vol stamp need : ℕ) (was now : Choosing) (cell : Cell) (old new : BlockBooks) → (cell ≡ absent) ⊎ (cell ≡ waiting) → old ≡ no_books → Agrees new.entry cell →
    ((new ≡ old) × (now ≡ was)) ⊎ ((new ≡ half_started vol was.next_rev stamp need) × (now ≡ drawn vol was)) →
    StartLacked vol was.next_rev stamp need cell old new × StartDraws cell vol was now
start_lacked vol stamp need was now absent old new left none agrees said = elim said [
  | inl same ↦ same
  | inr half ↦ absurd (subst (λ (b : BlockBooks). Agrees b.entry absent) half.0 agrees)
]
start_lacked vol stamp need was now (final replica) old new left none agrees said = elim left [ inl bad ↦ absurd cc | inr bad ↦ absurd cc ]
start_lacked vol stamp need was now (growing stamped base bytes rest) old new left none agrees said = elim left [ inl bad ↦ absurd cc | inr bad ↦ absurd cc ]
start_lacked vol stamp need was now (unsure x y cut) old new left none agrees said = elim left [ inl bad ↦ absurd cc | inr bad ↦ absurd cc ]
start_lacked vol stamp need was now waiting old new left none agrees said = elim said [
  | inl same ↦ absurd (subst (λ (b : BlockBooks). Agrees b.entry waiting) (same.0 ∙ none) agrees)
  | inr half ↦ half
]

-- a whole write that found no memory: what it left, and whether it drew a revision
write_lacked : (vol stamp len : ℕ) (was now : Choosing) (cell : Cell) (old new : BlockBooks) → (cell ≡ absent) ⊎ (cell ≡ waiting) → Agrees new.entry cell →
    ((new ≡ no_books) × ((now ≡ was) ⊎ (now ≡ drawn vol was)))
    ⊎ (((new ≡ half_started vol was.next_rev stamp len) ⊎ ((new ≡ left_started vol was.next_rev stamp len) ⊎ (new ≡ meta_left vol was.next_rev stamp len))) × (now ≡ drawn vol was)) →
    WriteLacked vol was.next_rev stamp len cell old new × WriteDraws cell vol was now
write_lacked vol stamp len was now absent old new left agrees said = elim said [
  | inl none ↦ none
  | inr (inl half, draws) ↦ absurd (subst (λ (b : BlockBooks). Agrees b.entry absent) half agrees)
  | inr (inr (inl both), draws) ↦ absurd (subst (λ (b : BlockBooks). Agrees b.entry absent) both agrees)
  | inr (inr (inr meta), draws) ↦ absurd (subst (λ (b : BlockBooks). Agrees b.entry absent) meta agrees)
]
write_lacked vol stamp len was now (final replica) old new left agrees said = elim left [ inl bad ↦ absurd cc | inr bad ↦ absurd cc ]
write_lacked vol stamp len was now (growing stamped base bytes rest) old new left agrees said = elim left [ inl bad ↦ absurd cc | inr bad ↦ absurd cc ]
write_lacked vol stamp len was now (unsure x y cut) old new left agrees said = elim left [ inl bad ↦ absurd cc | inr bad ↦ absurd cc ]
write_lacked vol stamp len was now waiting old new left agrees said = elim said [
  | inl none ↦ absurd (subst (λ (b : BlockBooks). Agrees b.entry waiting) none.0 agrees)
  | inr kept ↦ kept
]

-- what holds of each refusal, where a start was refused
pub of_refusal : (P : Answer → Type 0) → P exists → P no_block → P is_writing → P is_waiting → P is_unsure → ((need free : ℕ) → P (full need free)) → ((limit : ℕ) → P (too_long limit)) → P worn →
    (fault : StartFault) → (fault ≡ HasFailed → ⊥) → (fault ≡ NoMemory → ⊥) → P (start_fault fault)
of_refusal P there none writes waits doubts fills limits wears WasThere not_failed not_memory = there
of_refusal P there none writes waits doubts fills limits wears WasAbsent not_failed not_memory = none
of_refusal P there none writes waits doubts fills limits wears WasWriting not_failed not_memory = writes
of_refusal P there none writes waits doubts fills limits wears WasWaiting not_failed not_memory = waits
of_refusal P there none writes waits doubts fills limits wears WasUnsure not_failed not_memory = doubts
of_refusal P there none writes waits doubts fills limits wears (IsFull need free) not_failed not_memory = fills need free
of_refusal P there none writes waits doubts fills limits wears (IsTooLong limit) not_failed not_memory = limits limit
of_refusal P there none writes waits doubts fills limits wears IsWorn not_failed not_memory = wears
of_refusal P there none writes waits doubts fills limits wears HasFailed not_failed not_memory = absurd (not_failed refl)
of_refusal P there none writes waits doubts fills limits wears NoMemory not_failed not_memory = absurd (not_memory refl)

-- a start that was refused leaves the books, and what is chosen by; and so does a whole write
pub refused_start : (stamp need : ℕ) (fault : StartFault) (cell : Cell) (vol : ℕ) (choosing : Choosing) (books : BlockBooks) → (fault ≡ HasFailed → ⊥) → (fault ≡ NoMemory → ⊥) →
    BookStep (start_write stamp need) (start_fault fault) cell vol choosing.next_rev books books × Draws (start_write stamp need) (start_fault fault) cell vol choosing choosing
refused_start stamp need fault cell vol choosing books not_failed not_memory =
    of_refusal (λ answer. BookStep (start_write stamp need) answer cell vol choosing.next_rev books books × Draws (start_write stamp need) answer cell vol choosing choosing)
    (refl, refl) (refl, refl) (refl, refl) (refl, refl) (refl, refl) (λ n free. (refl, refl)) (λ limit. (refl, refl)) (refl, refl) fault not_failed not_memory

pub refused_write : (stamp : ℕ) (bytes : List ℕ) (fault : StartFault) (cell : Cell) (vol : ℕ) (choosing : Choosing) (books : BlockBooks) → (fault ≡ HasFailed → ⊥) → (fault ≡ NoMemory → ⊥) →
    BookStep (write stamp bytes) (start_fault fault) cell vol choosing.next_rev books books × Draws (write stamp bytes) (start_fault fault) cell vol choosing choosing
refused_write stamp bytes fault cell vol choosing books not_failed not_memory =
    of_refusal (λ answer. BookStep (write stamp bytes) answer cell vol choosing.next_rev books books × Draws (write stamp bytes) answer cell vol choosing choosing)
    (refl, refl) (refl, refl) (refl, refl) (refl, refl) (refl, refl) (λ n free. (refl, refl)) (λ limit. (refl, refl)) (refl, refl) fault not_failed not_memory

-- and a deletion leaves the books
pub refused_delete_books : (fault : DeleteFault) (cell : Cell) (vol rev : ℕ) (books : BlockBooks) → (fault ≡ RemovalFailed → ⊥) →
    BookStep delete (delete_fault fault) cell vol rev books books
refused_delete_books NotThere cell vol rev books not_failed = refl
refused_delete_books IsWrittenNow cell vol rev books not_failed = refl
refused_delete_books RemovalFailed cell vol rev books not_failed = absurd (not_failed refl)

-- a start that wasn't done, of an absent block
pub start_books : (vol stamp need : ℕ) (was now : Choosing) (fault : StartFault) (cell : Cell) (old new : BlockBooks) → (cell ≡ absent) ⊎ (cell ≡ waiting) → old ≡ no_books → Agrees new.entry cell →
    BooksNotStarted fault vol stamp need was now old new → BookStep (start_write stamp need) (start_fault fault) cell vol was.next_rev old new × Draws (start_write stamp need) (start_fault fault) cell vol was now
start_books vol stamp need was now WasThere cell old new left none agrees said = said
start_books vol stamp need was now WasAbsent cell old new left none agrees said = said
start_books vol stamp need was now WasWriting cell old new left none agrees said = said
start_books vol stamp need was now WasWaiting cell old new left none agrees said = said
start_books vol stamp need was now WasUnsure cell old new left none agrees said = said
start_books vol stamp need was now (IsFull n free) cell old new left none agrees said = said
start_books vol stamp need was now (IsTooLong limit) cell old new left none agrees said = said
start_books vol stamp need was now IsWorn cell old new left none agrees said = said
start_books vol stamp need was now HasFailed cell old new left none agrees said = said
start_books vol stamp need was now NoMemory cell old new left none agrees said = start_lacked vol stamp need was now cell old new left none agrees said

-- and the whole write that it ends
pub unstarted_books : (vol stamp : ℕ) (bytes : List ℕ) (was now : Choosing) (fault : StartFault) (cell : Cell) (old new : BlockBooks) → (cell ≡ absent) ⊎ (cell ≡ waiting) → (fault ≡ HasFailed → cell ≡ waiting) →
    old ≡ no_books → Agrees new.entry cell → BooksNotStarted fault vol stamp (length bytes) was now old new →
    BookStep (write stamp bytes) (start_fault fault) cell vol was.next_rev old new × Draws (write stamp bytes) (start_fault fault) cell vol was now
unstarted_books vol stamp bytes was now WasThere cell old new left waits none agrees said = said
unstarted_books vol stamp bytes was now WasAbsent cell old new left waits none agrees said = said
unstarted_books vol stamp bytes was now WasWriting cell old new left waits none agrees said = said
unstarted_books vol stamp bytes was now WasWaiting cell old new left waits none agrees said = said
unstarted_books vol stamp bytes was now WasUnsure cell old new left waits none agrees said = said
unstarted_books vol stamp bytes was now (IsFull need free) cell old new left waits none agrees said = said
unstarted_books vol stamp bytes was now (IsTooLong limit) cell old new left waits none agrees said = said
unstarted_books vol stamp bytes was now IsWorn cell old new left waits none agrees said = said
unstarted_books vol stamp bytes was now HasFailed cell old new left waits none agrees said =
    (subst (λ c. BookStep (write stamp bytes) failed c vol was.next_rev old new) (sym (waits refl)) said.0, said.1)
unstarted_books vol stamp bytes was now NoMemory cell old new left waits none agrees said =
    write_lacked vol stamp (length bytes) was now cell old new left agrees (elim said [ inl same ↦ inl (same.0 ∙ none, inl same.1) | inr half ↦ inr (inl half.0, half.1) ])

-- a whole write that was started, by its end
pub end_books : (fault : Option FillFault) (reply : OpReply) (vol stamp : ℕ) (bytes : List ℕ) (was now : Choosing) (cell : Cell) (block meta : ℕ) (old mid new : BlockBooks) → EndLeaves fault reply stamp bytes cell →
    Agrees new.entry cell → mid ≡ being_written vol was.next_rev stamp (length bytes) block meta → now ≡ drawn vol was → BooksEnded fault reply (length bytes) mid new →
    BookStep (write stamp bytes) (op_answer reply) cell vol was.next_rev old new × Draws (write stamp bytes) (op_answer reply) cell vol was now
end_books None EndsOk vol stamp bytes was now cell block meta old mid new leaves agrees started draws said = (said ∙ ap (with_replica (length bytes)) started, draws)
end_books None EndsFailed vol stamp bytes was now cell block meta old mid new leaves agrees started draws said =
    (subst (λ c. BookStep (write stamp bytes) failed c vol was.next_rev old new) (sym leaves) (said ∙ ap (in_state (in_doubt None)) started), draws)
end_books None EndsMemory vol stamp bytes was now cell block meta old mid new leaves agrees started draws said = absurd leaves
end_books (Some FillFailed) reply vol stamp bytes was now cell block meta old mid new leaves agrees started draws said =
    subst (λ r. BookStep (write stamp bytes) (op_answer r) cell vol was.next_rev old new × Draws (write stamp bytes) (op_answer r) cell vol was now) (sym leaves.0)
    (subst (λ c. BookStep (write stamp bytes) failed c vol was.next_rev old new) (sym leaves.1) (inr (said ∙ ap given_up started)), draws)
end_books (Some FillMemory) reply vol stamp bytes was now cell block meta old mid new leaves agrees started draws said =
    subst (λ r. BookStep (write stamp bytes) (op_answer r) cell vol was.next_rev old new × Draws (write stamp bytes) (op_answer r) cell vol was now) (sym leaves.0)
    (write_lacked vol stamp (length bytes) was now cell old new leaves.1 agrees (elim said [
      | inl none ↦ inl (none, inr draws)
      | inr (inl both) ↦ inr (inr (inl (both ∙ ap given_up started)), draws)
      | inr (inr only_meta) ↦ inr (inr (inr (only_meta ∙ ap given_up_meta started)), draws)
    ]))

-- the end of a writer: its replica is published, or may have been, or it is given up
pub finished_books : (stamp len : ℕ) (bytes : List ℕ) (cell : Cell) (old new : BlockBooks) → cell ≡ final (record { stamp = stamp; bytes = bytes }) → len ≡ length bytes → new ≡ with_replica len old →
    FinishDone cell old new
finished_books stamp len bytes cell old new is whole said = subst (λ c. FinishDone c old new) (sym is) (said ∙ ap (λ n. with_replica n old) whole)

pub doubted_books : (x y : Option Replica) (cell : Cell) (old new : BlockBooks) → cell ≡ unsure x y false → new ≡ in_state (in_doubt None) old → FinishFailed cell old new
doubted_books x y cell old new is said = subst (λ c. FinishFailed c old new) (sym is) said

pub given_up_books : (cell : Cell) (old new : BlockBooks) → cell ≡ waiting → new ≡ given_up old → FinishFailed cell old new
given_up_books cell old new is said = subst (λ c. FinishFailed c old new) (sym is) said

-- a deletion that wasn't done
pub deleted_books : (fault : DeleteFault) (cell : Cell) (vol rev : ℕ) (old new : BlockBooks) → BooksDeleted {U = Unit {0}} (Err fault) old new → BookStep delete (delete_fault fault) cell vol rev old new
deleted_books NotThere cell vol rev old new said = said
deleted_books IsWrittenNow cell vol rev old new said = said
deleted_books RemovalFailed cell vol rev old new said = said

-- the room of the pool is that of the books that the state says, and its volume for so many bytes the one that is chosen by them
pub room_here : {choosing : Choosing} {told : Option (List World)} {volumes : ℕ} {books : ℕ → BlockBooks} {writers : ℕ → Option Writer} {state : RunState} →
    Standing choosing told volumes books writers state → (need : ℕ) (uses : ℕ → ℕ) → AreUses books uses →
    IsRoomOf state.choosing state.books (room_by choosing uses) × IsChosen state.choosing state.books need (chosen choosing uses need)
room_here {books = books} {state = state} standing need uses counted =
    let said : AreUses state.books uses = λ vol. sums_by (λ id. ap (books_use vol) (sym (standing.said id))) (counted vol) in (
      (uses, said, ap (λ (c : Choosing). room_by c uses) (sym standing.chooses_by)),
      (uses, said, ap (λ (c : Choosing). chosen c uses need) (sym standing.chooses_by)),
    )
