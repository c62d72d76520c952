-- A write as a whole: what became of its bytes, and what its end leaves.
use Rattle.std.specs.Prelude.{ℕ, ◌≡◌, ◌⊎◌, false, List, length, Option, None, Some}
use Rattle.disk_model.specs.declared.disks.PoolDisks.{Ghosts}
use Rattle.disk_model.specs.declared.disks.Draft as drafts
use Rattle.disk_model.specs.declared.disks.SealedDraft as sealed
use Rattle.disk_model.specs.declared.disks.Reader as readers
use Rattle.disk_model.specs.Worlds.{World, DraftPlace}
use Rattle.map_model.specs.Cells.{Replica, Cell, Cells, absent, final, unsure, waiting}
use Rattle.map_model.specs.Sound.{Knowledge, Verifies, learned}
use Rattle.map_model.specs.Steps.{Command, Reply, Room, Step, write, write_refusal, done, failed, memory}
use Rattle.pair_draft.specs.declared.writer.Writing.{Writing}
use Rattle.pair_draft.specs.Writers.{writer_of, pair_of}
use Rattle.map_model.specs.Stands.{in_doubt, BlockBooks}
use Rattle.pool_state.specs.declared.pool_record.Pool.{Pool}
use Rattle.pool_state.specs.Books.{block_books}
use Rattle.pool_state.specs.BookSteps.{no_books, in_state, with_replica, given_up, given_up_meta}
use Rattle.pool_state.specs.Tenures.{TakesLearning}
use Rattle.pool_state.specs.Writers.{WriterBelongs, PairStands}
use Rattle.client_ops.specs.declared.writing.Op.{Op}
use Rattle.client_ops.specs.declared.writing.Op.TheVariants.{Write}
use Rattle.client_ops.specs.declared.writing.FillFault.{FillFault}
use Rattle.client_ops.specs.declared.writing.FillFault.TheVariants.{Failed as FillFailed, Memory as FillMemory}
use Rattle.client_ops.specs.declared.writing.Filled.{Filled}
use Rattle.client_ops.specs.declared.writing.Filled.TheVariants.{Sealed, Stopped}
use Rattle.client_ops.specs.declared.writing.OpReply.{OpReply}
use Rattle.client_ops.specs.declared.writing.OpReply.TheVariants.{Ok as EndsOk, Failed as EndsFailed, Memory as EndsMemory}

module _ {D S T R : Type 0} where
  -- the writer of a write that has begun
  abbrev pub op_writer : Op D S T R → Writing D S T R
  op_writer (Write writer) = writer

  -- the fault that stopped its writer
  abbrev pub fill_fault : Filled D S T R → Option FillFault
  fill_fault (Sealed pair) = None
  fill_fault (Stopped writer fault) = Some fault

module _ {D S T R : Type 0} (place : T → DraftPlace) (bytes_of : T → Option (List ℕ)) (sealed_place : S → DraftPlace) (sealed_bytes : S → Option (List ℕ)) where
  -- what a write of these bytes became belongs to a pool with these books
  abbrev pub FillStands : (told : Option (List World)) (books : ℕ → BlockBooks) (id stamp : ℕ) (bytes : List ℕ) → Filled D S T R → Type 0
  FillStands told books id stamp bytes (Sealed pair) = (pair.id ≡ id) × (pair.stamp ≡ stamp) × PairStands told books (pair_of sealed_place sealed_bytes pair) bytes
  FillStands told books id stamp bytes (Stopped writer fault) = (writer.id ≡ id) × (writer.stamp ≡ stamp) × WriterBelongs books (writer_of place bytes_of writer)

module _ {D S T R : Type 0} {g : Ghosts D S T R} {d : drafts.Ghosts T S} {s : sealed.Ghosts S} {r : readers.Ghosts R} where
  -- it belongs to this pool
  abbrev pub FilledBelongs : Pool D S T R g d s r → (id stamp : ℕ) (bytes : List ℕ) → Filled D S T R → Type 0
  FilledBelongs pool id stamp bytes filled =
      FillStands d.place d.bytes s.place s.bytes (g.worlds pool.disks) (block_books pool.map) id stamp bytes filled

-- the answer of a whole write
abbrev pub op_answer : OpReply → Reply
op_answer EndsOk = done
op_answer EndsFailed = failed
op_answer EndsMemory = memory

-- the cell that the end of a write leaves, answered so, by the fault that stopped its writer
abbrev pub EndLeaves : Option FillFault → OpReply → (stamp : ℕ) (bytes : List ℕ) → Cell → Type 0
EndLeaves None EndsOk stamp bytes cell = cell ≡ final (record { stamp = stamp; bytes = bytes })
EndLeaves None EndsFailed stamp bytes cell = cell ≡ unsure None (Some (record { stamp = stamp; bytes = bytes })) false
EndLeaves None EndsMemory stamp bytes cell = ⊥
EndLeaves (Some FillFailed) reply stamp bytes cell = (reply ≡ EndsFailed) × (cell ≡ waiting)
EndLeaves (Some FillMemory) reply stamp bytes cell = (reply ≡ EndsMemory) × ((cell ≡ absent) ⊎ (cell ≡ waiting))

-- what the end of a write of so many bytes leaves of what the books say of its block
abbrev pub BooksEnded : Option FillFault → OpReply → (len : ℕ) → (old new : BlockBooks) → Type 0
BooksEnded None EndsOk len old new = new ≡ with_replica len old
BooksEnded None EndsFailed len old new = new ≡ in_state (in_doubt None) old
BooksEnded None EndsMemory len old new = ⊥
BooksEnded (Some FillFailed) reply len old new = new ≡ given_up old
BooksEnded (Some FillMemory) reply len old new = (new ≡ no_books) ⊎ ((new ≡ given_up old) ⊎ (new ≡ given_up_meta old))

-- which a whole write of an absent block leaves, for which there is room
abbrev pub EndsAsWrite : Type 0
EndsAsWrite = (room : Room) (fault : Option FillFault) (reply : OpReply) (stamp : ℕ) (bytes : List ℕ) (cell : Cell) →
    write_refusal room absent (length bytes) ≡ None → EndLeaves fault reply stamp bytes cell → Step room absent (write stamp bytes) (op_answer reply) cell

-- what more is known of meta files after the end of a write of this replica: of one whose bytes were made sure of, its own, which matches
abbrev pub EndLearns : Option FillFault → (id : ℕ) → Replica → (Knowledge → Knowledge) → Type 0
EndLearns None id replica learn = (meta : List ℕ) × Verifies meta replica × (learn ≡ learned id replica.stamp meta)
EndLearns (Some fault) id replica learn = learn ≡ (λ known. known)

-- The end of a write: a tenure on its block, after which so much is known.
pub record EndsWrite {D S T R : Type 0} {g : Ghosts D S T R} {d : drafts.Ghosts T S} {s : sealed.Ghosts S} {r : readers.Ghosts R}
    (id stamp : ℕ) (bytes : List ℕ) (fault : Option FillFault) (reply : OpReply) (cells : Cells) (old new : Pool D S T R g d s r) : Type 0 where
  pub command : Command
  pub answer : Reply
  pub learn : Knowledge → Knowledge
  pub learns : EndLearns fault id (record { stamp = stamp; bytes = bytes }) learn
  pub takes : TakesLearning learn id command answer (EndLeaves fault reply stamp bytes) cells old new
