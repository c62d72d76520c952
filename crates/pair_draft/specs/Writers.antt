-- Writers and sealed pairs: what they hold, and the bytes that were pushed.
use Rattle.std.specs.Prelude.{ℕ, ◌≡◌, ◌<◌, ◌≤◌, ◌⊎◌, List, [], ◌∷◌, ◌++◌, length, Option, Some, IsSome, option_map, option_and_then, box_value}
use Rattle.disk_model.specs.Worlds.{World, DraftPlace}
use Rattle.meta_file.specs.Checksums.{castagnoli, HasSums, Matches}
use Rattle.meta_file.specs.Sums.{Progress, Summed}
use Rattle.pair_draft.specs.declared.writer.Writing.{Writing}
use Rattle.pair_draft.specs.declared.writer.SealedPair.{SealedPair}

-- what a writer holds: its block, where its checksums are, and its drafts with what they tell
pub record Writer : Type 0 where
  pub id : ℕ
  pub stamp : ℕ
  pub vol : ℕ
  pub len : ℕ
  pub reserved : ℕ
  pub progress : Progress
  pub sums : List ℕ
  pub block : DraftPlace
  pub block_bytes : Option (List ℕ)
  pub meta : Option DraftPlace
  pub meta_bytes : Option (List ℕ)

-- the same of a sealed pair
pub record Pair : Type 0 where
  pub id : ℕ
  pub stamp : ℕ
  pub vol : ℕ
  pub len : ℕ
  pub block : DraftPlace
  pub block_bytes : Option (List ℕ)
  pub meta : DraftPlace
  pub meta_bytes : Option (List ℕ)

module _ {D S T R : Type 0} where
  -- what a writer holds
  abbrev pub writer_of : (T → DraftPlace) → (T → Option (List ℕ)) → Writing D S T R → Writer
  writer_of place bytes w = record {
    id = w.id;
    stamp = w.stamp;
    vol = w.vol;
    len = w.len;
    reserved = w.reserved;
    progress = box_value w.summer;
    sums = w.sums.items;
    block = place w.block;
    block_bytes = bytes w.block;
    meta = option_map place w.meta;
    meta_bytes = option_and_then bytes w.meta;
  }

  -- what a sealed pair holds
  abbrev pub pair_of : (S → DraftPlace) → (S → Option (List ℕ)) → SealedPair D S T R → Pair
  pair_of place bytes p = record {
    id = p.id;
    stamp = p.stamp;
    vol = p.vol;
    len = p.len;
    block = place p.block;
    block_bytes = bytes p.block;
    meta = place p.meta;
    meta_bytes = bytes p.meta;
  }

-- the header of a meta file with checksums: version 1, type 2, 512 bytes a checksum
abbrev pub meta_header : List ℕ
meta_header = 0 ∷ 1 ∷ 2 ∷ 0 ∷ 0 ∷ 2 ∷ 0 ∷ []

-- nothing was taken in yet, of a meta file of type 2 and 512 bytes a checksum
pub record IsFresh (p : Progress) : Type 0 where
  pub kind : p.kind ≡ 2
  pub step : p.step ≡ 512
  pub summed : Summed p [] []

-- These bytes were pushed: where the disks tell, they stand in the block's draft, and nothing in that of the meta file.
pub record HasPushed (told : Option (List World)) (w : Writer) (bytes : List ℕ) : Type 0 where
  pub len : w.len ≡ length bytes
  pub within : w.len ≤ w.reserved
  pub kind : w.progress.kind ≡ 2
  pub step : w.progress.step ≡ 512
  pub given : List ℕ
  pub sums : w.sums ≡ meta_header ++ given
  pub summed : Summed w.progress given bytes
  pub block_bytes : IsSome told → w.block_bytes ≡ Some bytes
  pub meta_bytes : IsSome told → w.meta_bytes ≡ Some []

-- the header and these checksums are a meta file that matches the bytes
pub record AreSumsOf (sums bytes : List ℕ) : Type 0 where
  pub are : HasSums castagnoli 512 sums bytes
  pub matches : Matches (meta_header ++ sums) bytes

-- These are the bytes of a sealed pair, and its meta file has the header and their checksums.
pub record HasSealed (told : Option (List World)) (p : Pair) (bytes : List ℕ) : Type 0 where
  pub len : p.len ≡ length bytes
  pub sums : List ℕ
  pub of_bytes : AreSumsOf sums bytes
  pub block_bytes : IsSome told → p.block_bytes ≡ Some bytes
  pub meta_bytes : IsSome told → p.meta_bytes ≡ Some (meta_header ++ sums)

-- the same before the drafts are sealed
pub record HasWritten (told : Option (List World)) (w : Writer) (bytes : List ℕ) : Type 0 where
  pub len : w.len ≡ length bytes
  pub sums : List ℕ
  pub of_bytes : AreSumsOf sums bytes
  pub block_bytes : IsSome told → w.block_bytes ≡ Some bytes
  pub meta_bytes : IsSome told → w.meta_bytes ≡ Some (meta_header ++ sums)

-- some draft failed which has the place of one of the writer's
pub record FailedOf {T : Type 0} (place : T → DraftPlace) (faults : T → ℕ) (w : Writer) : Type 0 where
  pub one : T
  pub faulty : 0 < faults one
  pub own : (place one ≡ w.block) ⊎ (Some (place one) ≡ w.meta)

-- the same replica: its block and stamp, its volume, its reserved length and its block's draft
pub record Keeps (old new : Writer) : Type 0 where
  pub id : new.id ≡ old.id
  pub stamp : new.stamp ≡ old.stamp
  pub vol : new.vol ≡ old.vol
  pub reserved : new.reserved ≡ old.reserved
  pub block : new.block ≡ old.block
