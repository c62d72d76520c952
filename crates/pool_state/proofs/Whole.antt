-- Of each block one whole copy stands at most, whatever a crash leaves.
use Rattle.std.proofs.Common.{◌≡◌, inl, inr, ℕ, List, [], Option, Some, None, refl, ap, sym, ◌∙◌, subst}
use Rattle.std.specs.Prelude.{IsTrue, is_some}
use Rattle.disk_model.specs.Files.{Files}
use Rattle.disk_model.specs.Worlds.{World}
use Rattle.disk_model.specs.Told.{CanLeave}
use Rattle.map_model.specs.Cells.{Replica, Cell, Cells, absent, final, growing, unsure, waiting}
use Rattle.map_model.specs.Copies.{Spot, BlockFiles, own_spot, IsCopy, IsAlone, OneWhole}
use Rattle.volume_layout.specs.declared.block_file.BlockFile.{BlockFile}
use Rattle.volume_layout.specs.declared.block_file.BlockFile.TheVariants.{Block, Meta}
use Rattle.map_model.specs.Slots.{is_standing, View, files_in, view_of}
use Rattle.map_model.specs.Sound.{Knowledge, Fits}
use Rattle.map_model.specs.Stands.{EntryState, is_final, is_written, in_doubt, is_waiting, base_of, Entry, Leftover, Ticket, StateNames, HasOwnLeftovers, IsListed, Agrees, WritesOver, IsInDoubt, HasNoPair, BlockBooks, BlockStands}
use Rattle.pool_state.specs.Stands.{IsNoWait, BooksFit, PoolStands}
use Rattle.map_model.specs.Tenures.{books_of}
use Rattle.map_model.proofs.Owned.{IsOwn, own_file}
use Rattle.map_model.proofs.Readings.{KeepsStamp-meta}
use Rattle.map_model.proofs.SlotLemmas.{bytes-standing}
use Rattle.map_model.proofs.Bridge.{image_files}

-- each copy in the view is whole, and no other finalised file of the block stands
abbrev pub IsWholeIn : View → Type 0
IsWholeIn view = (spot : Spot) (replica : Replica) → IsCopy (files_in view) spot replica → IsAlone (files_in view) spot

-- the one meta that an entry without a base names
named_meta : (state : EntryState) (stamp other : ℕ) → base_of state ≡ None → StateNames state stamp (Meta other) → other ≡ stamp
named_meta is_final stamp other fresh names = names
named_meta (is_written None b m) stamp other fresh names = absurd names
named_meta (is_written (Some base) b m) stamp other fresh names = absurd cc
named_meta (in_doubt None) stamp other fresh (inl is) = is
named_meta (in_doubt None) stamp other fresh (inr base) = absurd base
named_meta (in_doubt (Some base)) stamp other fresh names = absurd cc
named_meta is_waiting stamp other fresh names = absurd names

-- an entry that doesn't wait lists nothing
not_left : (state : EntryState) (left : List Leftover) (v : ℕ) (f : BlockFile) → left ≡ [] → HasOwnLeftovers state × IsListed left v f → ⊥
not_left state left v f clean listed = subst (λ l. IsListed l v f) clean listed.1

-- the block of an entry that waits, waits
not_waiting : (state : EntryState) (e : Entry) (cell : Cell) → e.state ≡ state → Agrees (Some e) cell → (cell ≡ waiting → ⊥) → IsNoWait state
not_waiting is_final e cell is agrees not = tt
not_waiting (is_written base b m) e cell is agrees not = tt
not_waiting (in_doubt base) e cell is agrees not = tt
not_waiting is_waiting e absent is agrees not = absurd agrees
not_waiting is_waiting e (final replica) is agrees not = let bad : is_waiting ≡ is_final = sym is ∙ agrees.0 in absurd cc
not_waiting is_waiting e (growing stamp base bytes left) is agrees not = absurd (subst (λ state. WritesOver state base stamp) is agrees.2)
not_waiting is_waiting e (unsure x y cut) is agrees not = absurd (subst IsInDoubt is agrees)
not_waiting is_waiting e waiting is agrees not = absurd (not refl)

-- a copy of a block that doesn't wait is its only one
alone : (M : List ℕ → Replica → Type 0) (view : View) (e : Entry) (left : List Leftover) (ticket : Option Ticket) (cell : Cell) → BlockStands M view (books_of (Some e) left ticket) cell →
    base_of e.state ≡ None → left ≡ [] → (spot : Spot) (replica : Replica) → IsCopy (files_in view) spot replica → IsAlone (files_in view) spot
alone M view e left ticket cell stands fresh clean spot replica copy =
    let at : (v : ℕ) (f : BlockFile) → IsOwn f → IsTrue (is_standing (view v f)) → (e.vol ≡ v) × StateNames e.state e.stamp f =
    λ v f own there. elim (own_file M view (books_of (Some e) left ticket) cell stands v f own there) [
      | inl names ↦ names
      | inr listed ↦ absurd (not_left e.state left v f clean listed)
    ] in
    let has = KeepsStamp-meta (files_in view) spot replica.stamp copy.stamp in
    let here : e.vol ≡ spot.vol = (at spot.vol Block tt (bytes-standing (view spot.vol Block) (ap is_some copy.block))).0 in
    let own : replica.stamp ≡ e.stamp = named_meta e.state e.stamp replica.stamp fresh (at spot.vol (Meta replica.stamp) tt (bytes-standing (view spot.vol (Meta replica.stamp)) has)).1 in
    record {
      one_meta = (
        replica.stamp,
        record {
          stands = has;
          only = λ other is. named_meta e.state e.stamp other fresh (at spot.vol (Meta other) tt (bytes-standing (view spot.vol (Meta other)) is)).1 ∙ sym own;
        },
      );
      no_block = λ other is. ap own_spot (sym (at other.vol Block tt (bytes-standing (view other.vol Block) is)).0 ∙ here);
      no_meta = λ other stamp is. ap own_spot (sym (at other.vol (Meta stamp) tt (bytes-standing (view other.vol (Meta stamp)) is)).0 ∙ here);
    }

-- a block without a pair has no copy
pub waiting_whole : (view : View) → HasNoPair view → IsWholeIn view
waiting_whole view none spot replica copy =
    absurd (none spot.vol replica.stamp (bytes-standing (view spot.vol Block) (ap is_some copy.block))
    (bytes-standing (view spot.vol (Meta replica.stamp)) (KeepsStamp-meta (files_in view) spot replica.stamp copy.stamp)))

-- so is that of any block whose books fit its cell
whole_by : (M : List ℕ → Replica → Type 0) (view : View) {volumes : ℕ} (entry : Option Entry) (left : List Leftover) (ticket : Option Ticket) (cell : Cell) →
    BooksFit volumes (books_of entry left ticket) cell → BlockStands M view (books_of entry left ticket) cell → IsWholeIn view
whole_by M view None left ticket cell fit stands spot replica copy =
    absurd (own_file M view (books_of None left ticket) cell stands spot.vol Block tt (bytes-standing (view spot.vol Block) (ap is_some copy.block)))
whole_by M view (Some e) left ticket absent fit stands spot replica copy = absurd stands.agrees
whole_by M view (Some e) left ticket (final r) fit stands spot replica copy =
    alone M view e left ticket (final r) stands fit.fresh (fit.clean (not_waiting e.state e (final r) refl stands.agrees (λ bad. absurd cc))) spot replica copy
whole_by M view (Some e) left ticket (growing stamp base bytes n) fit stands spot replica copy =
    alone M view e left ticket (growing stamp base bytes n) stands fit.fresh (fit.clean (not_waiting e.state e (growing stamp base bytes n) refl stands.agrees (λ bad. absurd cc))) spot replica copy
whole_by M view (Some e) left ticket (unsure x y cut) fit stands spot replica copy =
    alone M view e left ticket (unsure x y cut) stands fit.fresh (fit.clean (not_waiting e.state e (unsure x y cut) refl stands.agrees (λ bad. absurd cc))) spot replica copy
whole_by M view (Some e) left ticket waiting fit stands spot replica copy = waiting_whole view stands.content spot replica copy

pub block_whole : (M : List ℕ → Replica → Type 0) (view : View) {volumes : ℕ} (books : BlockBooks) (cell : Cell) → BooksFit volumes books cell → BlockStands M view books cell → IsWholeIn view
block_whole M view books cell fit stands = whole_by M view books.entry books.leftovers books.ticket cell fit stands

-- what the disks can leave now
pub leaves_whole : {told : Option (List World)} {volumes : ℕ} {books : ℕ → BlockBooks} {known : Knowledge} {cells : Cells} →
    PoolStands told volumes books known cells → (image : Files) → CanLeave told image → OneWhole image
leaves_whole {told} {volumes} {books} {known} {cells} stands image leaves id valid =
    let world = leaves.0 in
    subst (λ (files : BlockFiles). (spot : Spot) (replica : Replica) → IsCopy files spot replica → IsAlone files spot)
    (sym (image_files world image id (stands.aside world leaves.1) leaves.2))
    (block_whole (Fits known id) (view_of world id) (books id) (cells id) (stands.fit id valid) (stands.blocks world leaves.1 id valid))
