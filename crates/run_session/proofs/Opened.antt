-- A session whose pool was just opened.
use Rattle.std.proofs.Common.{◌≡◌, inl, inr, ℕ, List, [], length, Option, Some, None, MatchOption, refl, sym, ◌∙◌, ap, subst}
use Rattle.volume_layout.specs.Paths.{IsBlockId}
use Rattle.disk_model.specs.Worlds.{World}
use Rattle.disk_model.specs.Files.{Files}
use Rattle.map_model.specs.Cells.{Cell, Cells, absent, final, growing, unsure, waiting}
use Rattle.map_model.specs.Sound.{Metas, Knowledge, exactly}
use Rattle.map_model.specs.Stands.{is_final, Entry, Leftover, Ticket, BlockBooks}
use Rattle.map_model.specs.Tenures.{books_of}
use Rattle.pool_state.specs.Rooms.{Choosing}
use Rattle.pool_state.specs.Stands.{IsNoWait, BooksFit, PoolStands}
use Rattle.pair_draft.specs.Writers.{Writer}
use Rattle.pool_open.specs.Outcome.{IsOpened, Opens}
use Rattle.run_model.specs.Books.{BooksOpened}
use Rattle.run_model.specs.State.{Numbers, RunState}
use Rattle.run_session.specs.Standing.{Standing, OpenWriter, NotGrowing}
use Rattle.run_session.proofs.Booked.{none_said}

-- the state that an opening leaves
abbrev pub opened_of : Cells → Metas → (ℕ → Numbers) → (ℕ → BlockBooks) → (choosing : Choosing) → RunState
opened_of cells metas numbers books choosing = record { cells = cells; metas = metas; writers = numbers; books = books; choosing = choosing }

-- the state that a run begins with
abbrev pub first_of : Cells → Metas → (ℕ → BlockBooks) → (choosing : Choosing) → RunState
first_of cells metas books choosing = opened_of cells metas (λ id. record { first = 0; last = 0 }) books choosing

not_growing : (cell : Cell) → IsOpened cell → NotGrowing cell
not_growing cell (inl is) = subst NotGrowing (sym is) tt
not_growing cell (inr (inl is)) = subst NotGrowing (sym is.1) tt
not_growing cell (inr (inr is)) = subst NotGrowing (sym is) tt

-- a session without writers stands for the cells that the opening made, of whose meta files so much is known
pub stands_opened : {choosing : Choosing} {before told : Option (List World)} {volumes : ℕ} {books : ℕ → BlockBooks} {past since : ℕ → Files → Type 0} (writers : ℕ → Option Writer) →
    (opens : Opens before told volumes books past since) → {metas : Metas} → PoolStands told volumes books (exactly metas) opens.cells → (numbers : ℕ → Numbers) → ((id : ℕ) → writers id ≡ None) →
    Standing choosing told volumes books writers (opened_of opens.cells metas numbers books choosing)
stands_opened {choosing} {before} {told} {volumes} {books} writers opens pool numbers none = record {
  pool = pool;
  chooses_by = refl;
  said = λ id. refl;
  writer = λ id valid. subst (λ w. MatchOption w (NotGrowing (opens.cells id)) (OpenWriter told books id (opens.cells id) (numbers id))) (sym (none id))
      (not_growing (opens.cells id) (opens.opened id valid));
}

-- and so for those that a run begins with
pub stands_first : {choosing : Choosing} {before told : Option (List World)} {volumes : ℕ} {books : ℕ → BlockBooks} {past since : ℕ → Files → Type 0} (writers : ℕ → Option Writer) →
    (opens : Opens before told volumes books past since) → ((id : ℕ) → writers id ≡ None) → Standing choosing told volumes books writers (first_of opens.cells opens.metas books choosing)
stands_first writers opens none = stands_opened writers opens opens.stands (λ id. record { first = 0; last = 0 }) none

-- the entry of a replica, field by field
final_entry : (e : Entry) (leftovers : List Leftover) (ticket : Option Ticket) (stamp len : ℕ) → e.stamp ≡ stamp → e.len ≡ len → e.state ≡ is_final → leftovers ≡ [] → ticket ≡ None →
    books_of (Some e) leftovers ticket ≡ books_of (Some (record { stamp = stamp; len = len; vol = e.vol; rev = e.rev; state = is_final })) [] None
final_entry e leftovers ticket stamp len stamp_is len_is state_is none free =
    ap (λ s. books_of (Some (record { stamp = s; len = e.len; vol = e.vol; rev = e.rev; state = e.state })) leftovers ticket) stamp_is
    ∙ ap (λ l. books_of (Some (record { stamp = stamp; len = l; vol = e.vol; rev = e.rev; state = e.state })) leftovers ticket) len_is
    ∙ ap (λ s. books_of (Some (record { stamp = stamp; len = len; vol = e.vol; rev = e.rev; state = s })) leftovers ticket) state_is
    ∙ ap (λ l. books_of (Some (record { stamp = stamp; len = len; vol = e.vol; rev = e.rev; state = is_final })) l ticket) none
    ∙ ap (λ t. books_of (Some (record { stamp = stamp; len = len; vol = e.vol; rev = e.rev; state = is_final })) [] t) free

-- by the cell that the opening made
opened_books : (volumes : ℕ) (entry : Option Entry) (leftovers : List Leftover) (ticket : Option Ticket) (cell : Cell) → BooksFit volumes (books_of entry leftovers ticket) cell → ticket ≡ None →
    IsOpened cell → BooksOpened volumes cell (books_of entry leftovers ticket)
opened_books volumes entry leftovers ticket absent fit free opened = none_said entry leftovers ticket fit.agrees fit.clean free
opened_books volumes None leftovers ticket (final replica) fit free opened = absurd fit.agrees
opened_books volumes (Some e) leftovers ticket (final replica) fit free opened =
    let agrees : (e.state ≡ is_final) × (e.stamp ≡ replica.stamp) × (e.len ≡ length replica.bytes) = fit.agrees in (
      e.vol,
      e.rev,
      fit.placed,
      final_entry e leftovers ticket replica.stamp (length replica.bytes) agrees.1 agrees.2 agrees.0 (fit.clean (subst IsNoWait (sym agrees.0) tt)) free,
    )
opened_books volumes entry leftovers ticket (growing stamp base bytes left) fit free opened = absurd (not_growing (growing stamp base bytes left) opened)
opened_books volumes entry leftovers ticket (unsure x y cut) fit free opened = elim opened [
  | inl bad ↦ absurd cc
  | inr (inl bad) ↦ let same : unsure x y cut ≡ final bad.0 = bad.1 in absurd cc
  | inr (inr bad) ↦ absurd cc
]
opened_books volumes None leftovers ticket waiting fit free opened = absurd fit.agrees
opened_books volumes (Some e) leftovers ticket waiting fit free opened = (fit.placed, fit.agrees)

-- what the books say of a block after an opening, on so many volumes
pub books_opened : {told : Option (List World)} {volumes : ℕ} {books : ℕ → BlockBooks} {known : Knowledge} {cells : Cells} (many : ℕ) → volumes ≡ many → ((id : ℕ) → (books id).ticket ≡ None) →
    PoolStands told volumes books known cells → (id : ℕ) → IsBlockId id → IsOpened (cells id) → BooksOpened many (cells id) (books id)
books_opened {volumes = volumes} {books = books} {cells = cells} many same free pool id valid opened =
    subst (λ n. BooksOpened n (cells id) (books id)) same (opened_books volumes (books id).entry (books id).leftovers (books id).ticket (cells id) (pool.fit id valid) (free id) opened)
