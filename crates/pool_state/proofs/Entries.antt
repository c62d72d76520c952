-- What the entry of a block says of its books.
use Rattle.std.proofs.Common.{◌≡◌, ℕ, ◌==◌, if◌then◌else◌, List, [], Option, None, Some, refl, sym, ◌∙◌, ap, subst}
use Rattle.std.proofs.lemmas.Bool.{eq-eqb}
use Rattle.std.proofs.lemmas.Option.{same_Some}
use Rattle.std.specs.Prelude.{option_map, IfSome}
use Rattle.map_model.specs.Cells.{Cell}
use Rattle.map_model.specs.Stands.{EntryState, is_written, in_doubt, Agrees, Leftover as BookLeftover, BlockBooks}
use Rattle.map_model.specs.Tenures.{books_of, Writer, writer_entry, written_books}
use Rattle.replica_map.specs.declared.entry.Entry.{Entry}
use Rattle.replica_map.specs.declared.entry.Grown.{Grown}
use Rattle.replica_map.specs.declared.entry.State.{State}
use Rattle.replica_map.specs.declared.entry.State.TheVariants.{Finalised, Writing, Unsure, Waiting}
use Rattle.replica_map.specs.Books.{Books, entry_at, grown_at}
use Rattle.pool_state.specs.Answers.{IsWritingState, IsWritten}
use Rattle.pool_state.specs.Books.{entry_state, book_entry, block_number, meta_number, left_at, block_books, BooksBecome}
use Rattle.pool_state.specs.BookSteps.{BooksHalfDeleted}
use Rattle.pool_state.specs.Stands.{IsVolume, IsNoWait, IsNotWaiting, BooksFit}
use Rattle.pool_state.specs.Writers.{writer_at}

-- the writer of an entry
abbrev pub writer_in : Option Grown → Entry → Writer
writer_in grown e = writer_at e.stamp e.vol e.len e.rev (block_number grown) (meta_number grown)

-- what the books say of a block that has an entry
pub with_entry : (map : Books) (id : ℕ) (e : Entry) → entry_at map id ≡ Some e → block_books map id ≡ books_of (Some (book_entry (grown_at map id) e)) (left_at map id) None
with_entry map id e has = ap (λ (o : Option Entry). books_of (option_map (book_entry (grown_at map id)) o) (left_at map id) None) has

module _ (map : Books) (id : ℕ) {volumes : ℕ} {cell : Cell} (fit : BooksFit volumes (block_books map id) cell) where
  -- of a block without an entry the books say nothing
  pub nothing_said : entry_at map id ≡ None → block_books map id ≡ books_of None [] None
  nothing_said none =
      ap (λ (o : Option Entry). books_of (option_map (book_entry (grown_at map id)) o) (left_at map id) None) none
      ∙ ap (λ l. books_of None l None) (fit.clean (subst (λ (o : Option Entry). IsNotWaiting (option_map (book_entry (grown_at map id)) o)) (sym none) tt))

  pub none_left : entry_at map id ≡ None → left_at map id ≡ []
  none_left none = ap (λ (b : BlockBooks). b.leftovers) (nothing_said none)

  module _ (e : Entry) (has : entry_at map id ≡ Some e) where
    -- of one with an entry, that entry
    pub said_by : block_books map id ≡ books_of (Some (book_entry (grown_at map id) e)) (left_at map id) None
    said_by = with_entry map id e has

    pub fit_by : BooksFit volumes (books_of (Some (book_entry (grown_at map id) e)) (left_at map id) None) cell
    fit_by = subst (λ (b : BlockBooks). BooksFit volumes b cell) said_by fit

    -- and no leftovers, unless it waits
    pub calm_left : (state : State) → e.state ≡ state → IsNoWait (entry_state (grown_at map id) state) → left_at map id ≡ []
    calm_left state is calm = fit_by.clean (subst (λ s. IsNoWait (entry_state (grown_at map id) s)) (sym is) calm)

    -- by its state
    pub said_in : (state : State) → e.state ≡ state → IsNoWait (entry_state (grown_at map id) state) →
        block_books map id ≡ books_of (Some (book_entry (grown_at map id) (record e { state = state }))) [] None
    said_in state is calm = said_by
        ∙ ap (λ s. books_of (Some (book_entry (grown_at map id) (record e { state = s }))) (left_at map id) None) is
        ∙ ap (λ l. books_of (Some (book_entry (grown_at map id) (record e { state = state }))) l None) (calm_left state is calm)

    -- no base is kept
    pub no_base : (state : State) → e.state ≡ state → Rattle.map_model.specs.Stands.base_of (entry_state (grown_at map id) state) ≡ None
    no_base state is = subst (λ s. Rattle.map_model.specs.Stands.base_of (entry_state (grown_at map id) s) ≡ None) is fit_by.fresh

    -- the books of a fresh writer
    pub written_here : e.state ≡ Writing → block_books map id ≡ written_books None [] None (writer_in (grown_at map id) e)
    written_here is = said_in Writing is tt
        ∙ ap (λ base. books_of (Some (writer_entry (writer_in (grown_at map id) e) (is_written base (block_number (grown_at map id)) (meta_number (grown_at map id))))) [] None) (no_base Writing is)

-- the entry of an open writer
writing_state : (grown : Option Grown) (state : State) → IsWritingState (entry_state grown state) → state ≡ Writing
writing_state grown Finalised writes = absurd writes
writing_state grown Writing writes = refl
writing_state grown Unsure writes = absurd writes
writing_state grown Waiting writes = absurd writes

pub is_written_entry : (map : Books) (id : ℕ) (e : Entry) → entry_at map id ≡ Some e → IsWritten (block_books map id).entry → e.state ≡ Writing
is_written_entry map id e has writes =
    writing_state (grown_at map id) e.state (subst (λ (o : Option Entry). IsWritten (option_map (book_entry (grown_at map id)) o)) has writes)

-- there is one
pub not_unwritten : (map : Books) (id : ℕ) → IsWritten (block_books map id).entry → entry_at map id ≡ None → ⊥
not_unwritten map id writes none = subst (λ (o : Option Entry). IsWritten (option_map (book_entry (grown_at map id)) o)) none writes

-- the entry of the books of a writer
pub same_writer : (map : Books) (id : ℕ) (w : Writer) (e : Entry) → block_books map id ≡ written_books None [] None w → entry_at map id ≡ Some e →
    book_entry (grown_at map id) e ≡ writer_entry w (is_written None w.block_number w.meta_number)
same_writer map id w e is has =
    same_Some _ _ (sym (ap (λ (o : Option Entry). option_map (book_entry (grown_at map id)) o) has) ∙ ap (λ (b : BlockBooks). b.entry) is)

pub has_entry : (map : Books) (id : ℕ) (w : Writer) → block_books map id ≡ written_books None [] None w → entry_at map id ≡ None → ⊥
has_entry map id w is none =
    not_unwritten map id (subst (λ (b : BlockBooks). IsWritten b.entry) (sym is) tt) none

-- what the entry says agrees with the cell
pub agrees_by : (map : Books) (id : ℕ) {volumes : ℕ} {cell : Cell} → BooksFit volumes (block_books map id) cell → (e : Entry) → entry_at map id ≡ Some e → Agrees (Some (book_entry (grown_at map id) e)) cell
agrees_by map id fit e has = (fit_by map id fit e has).agrees

-- the books of a block without leftovers become these
pub settled : (map new : Books) {id n : ℕ} (f : List BookLeftover → BlockBooks) → n ≡ id → BooksBecome n (f (left_at map n)) map new → left_at map id ≡ [] →
    (other : ℕ) → block_books new other ≡ (if other == id then f [] else block_books map other)
settled map new {id} {n} f own becomes none other =
    subst (λ k. BooksBecome k (f (left_at map k)) map new) own becomes other
    ∙ ap (λ l. if other == id then f l else block_books map other) none

-- the books of a block in doubt, which keeps no base
pub doubt_here : (map : Books) (id : ℕ) {volumes : ℕ} {cell : Cell} → BooksFit volumes (block_books map id) cell → (e : Entry) → entry_at map id ≡ Some e → e.state ≡ Unsure →
    block_books map id ≡ books_of (Some (book_entry None (record e { state = Unsure }))) [] None
doubt_here map id fit e has is = said_in map id fit e has Unsure is tt
    ∙ ap (λ base. books_of (Some (record (book_entry None e) { state = in_doubt base })) [] None) (no_base map id fit e has Unsure is)

-- those of a block that waits, and of which nothing is listed
pub waits_in : (map : Books) (id : ℕ) (e : Entry) → entry_at map id ≡ Some e → e.state ≡ Waiting → left_at map id ≡ [] →
    block_books map id ≡ books_of (Some (book_entry (grown_at map id) (record e { state = Waiting }))) [] None
waits_in map id e has is none =
    ap (λ (o : Option Entry). books_of (option_map (book_entry (grown_at map id)) o) (left_at map id) None) has
    ∙ ap (λ s. books_of (Some (book_entry (grown_at map id) (record e { state = s }))) (left_at map id) None) is
    ∙ ap (λ l. books_of (Some (book_entry (grown_at map id) (record e { state = Waiting }))) l None) none

-- an entry is on one of the volumes
pub entry_on : (map : Books) (id : ℕ) {volumes : ℕ} {cell : Cell} → BooksFit volumes (block_books map id) cell → (e : Entry) → entry_at map id ≡ Some e → IsVolume volumes e.vol
entry_on map id fit e has = (fit_by map id fit e has).placed

-- of a block that is written nothing is left
pub writer_left : (map : Books) (id : ℕ) (w : Writer) → block_books map id ≡ written_books None [] None w → left_at map id ≡ []
writer_left map id w is = ap (λ (b : BlockBooks). b.leftovers) is

-- the same books, said otherwise
pub settled_as : (id : ℕ) (old new : ℕ → BlockBooks) (now then_now : BlockBooks) → ((other : ℕ) → new other ≡ (if other == id then now else old other)) → now ≡ then_now →
    (other : ℕ) → new other ≡ (if other == id then then_now else old other)
settled_as id old new now then_now becomes is other = becomes other ∙ ap (λ (b : BlockBooks). if other == id then b else old other) is

-- what the books say of a block becomes this
pub become : (map new : Books) {id n : ℕ} (f : List BookLeftover → BlockBooks) → n ≡ id → BooksBecome n (f (left_at map n)) map new → block_books new id ≡ f (left_at map id)
become map new {id} {n} f own becomes =
    subst (λ k. BooksBecome k (f (left_at map k)) map new) own becomes id ∙ rw (eq-eqb id id refl) refl

-- and so it does where nothing of the block is left
pub become_alone : (map new : Books) {id n : ℕ} (f : List BookLeftover → BlockBooks) → n ≡ id → BooksBecome n (f (left_at map n)) map new → left_at map id ≡ [] → block_books new id ≡ f []
become_alone map new f own becomes none = become map new f own becomes ∙ ap f none

-- a deletion that failed, by the entry of its block
pub half_deleted_by : (map : Books) (id : ℕ) (e : Entry) (state : EntryState) (new : BlockBooks) → entry_at map id ≡ Some e → entry_state (grown_at map id) e.state ≡ state → BooksHalfDeleted state (block_books map id) new →
    IfSome (block_books map id).entry (λ entry. BooksHalfDeleted entry.state (block_books map id) new)
half_deleted_by map id e state new has is half =
    subst (λ (o : Option Entry). IfSome (option_map (book_entry (grown_at map id)) o) (λ entry. BooksHalfDeleted entry.state (block_books map id) new)) (sym has)
    (subst (λ s. BooksHalfDeleted s (block_books map id) new) (sym is) half)
