-- When a session stands for the state of a run.
use Rattle.std.specs.Prelude.{ℕ, ◌≡◌, ◌-◌, List, Option, None, MatchOption, option_map, ⊤, nat_eq}
use Rattle.disk_model.specs.declared.disks.PoolDisks.{Ghosts}
use Rattle.disk_model.specs.declared.disks.Draft as drafts
use Rattle.disk_model.specs.declared.disks.SealedDraft as sealed
use Rattle.disk_model.specs.declared.disks.Reader as readers
use Rattle.disk_model.specs.Worlds.{World}
use Rattle.indexmap.specs.IndexMap.{get}
use Rattle.volume_layout.specs.Paths.{IsBlockId}
use Rattle.disk_model.specs.Marks.{mark_of, GivenBetween, faulty_of}
use Rattle.map_model.specs.Sound.{matching, exactly}
use Rattle.map_model.specs.Cells.{Cell, Cells, absent, final, growing, unsure, waiting}
use Rattle.map_model.specs.Steps.{Command}
use Rattle.map_model.specs.Stands.{BlockBooks}
use Rattle.pool_state.specs.Books.{block_books}
use Rattle.pool_state.specs.Rooms.{Choosing, choosing_of}
use Rattle.pool_state.specs.Stands.{PoolStands, Stands}
use Rattle.pair_draft.specs.Writers.{Writer, writer_of}
use Rattle.pool_state.specs.Writers.{WriterStands}
use Rattle.script_lang.specs.declared.reply.Reply.{Reply}
use Rattle.script_lang.specs.declared.line.Line.{Line}
use Rattle.run_session.specs.declared.session.Session.{Session}
use Rattle.run_model.specs.State.{Numbers, RunState}
use Rattle.run_model.specs.Carrying.{CarriesOut, LineCarried}

-- the cell has no writer
abbrev pub NotGrowing : Cell → Type 0
NotGrowing absent = ⊤
NotGrowing (final replica) = ⊤
NotGrowing (growing stamp base bytes left) = ⊥
NotGrowing (unsure x y cut) = ⊤
NotGrowing waiting = ⊤

-- an open writer of a block: it belongs to the pool, the cell grows as it does, and its drafts' numbers are among those
-- noted
pub record OpenWriter (told : Option (List World)) (books : ℕ → BlockBooks) (id : ℕ) (cell : Cell) (numbers : Numbers) (w : Writer) : Type 0 where
  pub of : w.id ≡ id
  pub bytes : List ℕ
  pub grows : cell ≡ growing w.stamp None bytes (w.reserved - w.len)
  pub stands : WriterStands told books w bytes
  pub block_given : GivenBetween numbers.first numbers.last stands.block_number
  pub meta_given : GivenBetween numbers.first numbers.last stands.meta_number

-- disks, books and open writers stand for the state of a run: its cells, of which these are the meta files, and what it
-- says of the books and of what is chosen by
pub record Standing (choosing : Choosing) (told : Option (List World)) (volumes : ℕ) (books : ℕ → BlockBooks) (writers : ℕ → Option Writer) (state : RunState) : Type 0 where
  pub pool : PoolStands told volumes books (exactly state.metas) state.cells
  pub chooses_by : state.choosing ≡ choosing
  pub said : (id : ℕ) → state.books id ≡ books id
  pub writer : (id : ℕ) → IsBlockId id → MatchOption (writers id) (NotGrowing (state.cells id)) (OpenWriter told books id (state.cells id) (state.writers id))

module _ {D S T R : Type 0} {g : Ghosts D S T R} {d : drafts.Ghosts T S} {s : sealed.Ghosts S} {r : readers.Ghosts R} where
  -- the open writer of a block
  abbrev pub open_writer : Session D S T R g d s r → ℕ → Option Writer
  open_writer session id = option_map (writer_of (λ draft. d.place draft) (λ draft. d.bytes draft)) (get nat_eq session.writers.by_block id)

  -- the pool of a session stands for cells, with meta files that match
  abbrev pub SoundFor : Session D S T R g d s r → Cells → Type 0
  SoundFor session cells = Stands session.pool matching cells

  -- a session stands for the state of a run
  abbrev pub SessionStands : Session D S T R g d s r → RunState → Type 0
  SessionStands session state =
      Standing (choosing_of session.pool) (g.worlds session.pool.disks) (g.volume_count session.pool.disks) (block_books session.pool.map) (open_writer session) state

  -- a session stands for some state of a run
  abbrev pub SessionStandsForSome : Session D S T R g d s r → Type 0
  SessionStandsForSome session = (state : RunState) × SessionStands session state

module _ {D S T R : Type 0} {g : Ghosts D S T R} {d : drafts.Ghosts T S} {s : sealed.Ghosts S} {r : readers.Ghosts R} where
  -- a session carried a command out
  abbrev pub SessionCarriesOut : RunState → (id : ℕ) → Command → Reply → (old new : Session D S T R g d s r) → Type 0
  SessionCarriesOut state id command reply old new =
      CarriesOut (faulty_of d r) (g.worlds old.pool.disks) state (mark_of g old.pool.disks) id command reply (mark_of g new.pool.disks)
      (SessionStands new) (SoundFor old) (SoundFor new) (g.left_since old.pool.disks) (g.left_since new.pool.disks)

  -- and a line
  abbrev pub SessionCarriesLine : RunState → Line → Reply → (old new : Session D S T R g d s r) → Type 0
  SessionCarriesLine state line reply old new =
      LineCarried (faulty_of d r) (g.worlds old.pool.disks) state (mark_of g old.pool.disks) line reply (mark_of g new.pool.disks)
      (SessionStands new) (SoundFor old) (SoundFor new) (g.left_since old.pool.disks) (g.left_since new.pool.disks)
