-- What stands of a block goes on to stand where less is known of its meta files.
use Rattle.std.proofs.Common.{◌≡◌, inl, inr, ℕ, List, Option, Some, None, IsSomeAnd}
use Rattle.map_model.specs.Cells.{Replica, Cell, absent, final, growing, unsure, waiting}
use Rattle.map_model.specs.Slots.{View}
use Rattle.map_model.specs.Stands.{Entry, Leftover, BlockBooks, Holds, PairStands, BlockStands}

module _ (M N : List ℕ → Replica → Type 0) (weaken : (content : List ℕ) (replica : Replica) → M content replica → N content replica) where
  pair_by : (view : View) (vol : ℕ) (replica : Replica) → PairStands M view vol replica → PairStands N view vol replica
  pair_by view vol replica pair = record {
    block_file = pair.block_file;
    content = pair.content;
    meta_file = pair.meta_file;
    matches = weaken pair.content replica pair.matches;
  }

  holds_by : (view : View) (entry : Option Entry) (leftovers : List Leftover) (cell : Cell) → Holds M view entry leftovers cell → Holds N view entry leftovers cell
  holds_by view entry leftovers absent own = own
  holds_by view entry leftovers waiting own = own
  holds_by view entry leftovers (growing stamp None bytes left) own = own
  holds_by view None leftovers (growing stamp (Some base) bytes left) own = own
  holds_by view (Some e) leftovers (growing stamp (Some base) bytes left) own = pair_by view e.vol base own
  holds_by view None leftovers (final replica) own = own
  holds_by view (Some e) leftovers (final replica) own = (pair_by view e.vol replica own.0, own.1)
  holds_by view entry leftovers (unsure x y cut) own = record {
    reads = own.reads;
    sound = λ vol replica content copy is. weaken content replica (own.sound vol replica content copy is);
  }

  -- A BLOCK STANDS BY LESS
  pub stands_by : (view : View) (books : BlockBooks) (cell : Cell) → BlockStands M view books cell → BlockStands N view books cell
  stands_by view books cell stands = record {
    agrees = stands.agrees;
    content = holds_by view books.entry books.leftovers cell stands.content;
    accounted = stands.accounted;
    apart = stands.apart;
    leftovers = stands.leftovers;
    settled = stands.settled;
    stamp = stands.stamp;
    writer = stands.writer;
    ticket = stands.ticket;
  }
