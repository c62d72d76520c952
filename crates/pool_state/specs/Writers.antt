-- When writers and sealed pairs belong to a pool.
use Rattle.std.specs.Prelude.{ℕ, ◌≡◌, List, [], ◌++◌, Option, Some, None}
use Rattle.disk_model.specs.Worlds.{World, draft_at}
use Rattle.volume_layout.specs.Paths.{IsBlockId, IsStamp, rbw_block, rbw_meta}
use Rattle.pair_draft.specs.Writers.{Writer, Pair, HasPushed, HasSealed, meta_header}
use Rattle.map_model.specs.Stands.{BlockBooks}
use Rattle.map_model.specs.Tenures.{Writer as TenureWriter, written_books}

-- the writer of these drafts, to its tenure
abbrev pub writer_at : (stamp vol len rev block meta : ℕ) → TenureWriter
writer_at stamp vol len rev block meta =
    record { stamp = stamp; vol = vol; len = len; rev = rev; block_number = block; meta_number = meta }

-- The writer, whole or not, is that of its block in these books.
pub record WriterBelongs (books : ℕ → BlockBooks) (w : Writer) : Type 0 where
  pub valid : IsBlockId w.id × IsStamp w.stamp
  pub rev : ℕ
  pub block_number : ℕ
  pub meta_number : ℕ
  pub is : books w.id ≡ written_books None [] None (writer_at w.stamp w.vol w.reserved rev block_number meta_number)

-- The writer is whole and belongs to a pool with these books, and these bytes were pushed: its entry has its drafts'
-- numbers, the drafts are those of its block and stamp, and where the disks tell, they have the bytes, and nothing yet
-- of the meta file.
pub record WriterStands (told : Option (List World)) (books : ℕ → BlockBooks) (w : Writer) (bytes : List ℕ) : Type 0 where
  pub valid : IsBlockId w.id × IsStamp w.stamp
  pub rev : ℕ
  pub block_number : ℕ
  pub meta_number : ℕ
  pub is : books w.id ≡ written_books None [] None (writer_at w.stamp w.vol w.reserved rev block_number meta_number)
  pub block : w.block ≡ draft_at block_number w.vol (rbw_block w.id)
  pub meta : w.meta ≡ Some (draft_at meta_number w.vol (rbw_meta w.id w.stamp))
  pub pushed : HasPushed told w bytes

-- The sealed pair belongs to a pool with these books, these are its bytes, and its meta file matches them.
pub record PairStands (told : Option (List World)) (books : ℕ → BlockBooks) (p : Pair) (bytes : List ℕ) : Type 0 where
  pub valid : IsBlockId p.id × IsStamp p.stamp
  pub reserved : ℕ
  pub rev : ℕ
  pub block_number : ℕ
  pub meta_number : ℕ
  pub is : books p.id ≡ written_books None [] None (writer_at p.stamp p.vol reserved rev block_number meta_number)
  pub block : p.block ≡ draft_at block_number p.vol (rbw_block p.id)
  pub meta : p.meta ≡ draft_at meta_number p.vol (rbw_meta p.id p.stamp)
  pub sealed : HasSealed told p bytes

-- the bytes of its meta file
abbrev pub meta_of : {told : Option (List World)} {books : ℕ → BlockBooks} {p : Pair} {bytes : List ℕ} → PairStands told books p bytes → List ℕ
meta_of belongs = meta_header ++ belongs.sealed.sums
