-- What a push does to the cells: the pool's files and entries stay.
use Rattle.std.proofs.Common.{◌≡◌, ◌+◌, ◌-◌, ◌≤◌, inl, inr, ℕ, true, false, List, [], ◌++◌, length, length-append, Option, None, refl, sym, ◌∙◌, ap, subst, arith, IfSome, nat_lt}
use Rattle.std.specs.Prelude.{nat_le}
use Rattle.std.proofs.lemmas.Bool.{cases_eq, eq-eqb, ne_eqb}
use Rattle.std.proofs.lemmas.Bool.Decides.{nat_tests}
use Rattle.disk_model.specs.Worlds.{World}
use Rattle.map_model.specs.Cells.{Replica, Cells, growing}
use Rattle.map_model.specs.Sound.{Fits}
use Rattle.map_model.specs.Steps.{Room, Step, push, done}
use Rattle.map_model.specs.Slots.{View}
use Rattle.map_model.specs.Stands.{Agrees, BlockBooks, BlockStands}
use Rattle.map_model.specs.Tenures.{Writer as TenureWriter, written_books}
use Rattle.pool_state.specs.Answers.{StepsTo}
use Rattle.pool_state.proofs.AnyRoom.{any_room}
use Rattle.pool_state.specs.Stands.{IsVolume, PoolStands}
use Rattle.pair_draft.specs.Writers.{Writer}
use Rattle.pool_state.specs.Writers.{WriterStands, writer_at}
use Rattle.pool_state.specs.Reaching.{Stays}
use Rattle.pool_state.proofs.Reaching.{reaches_same}
use Rattle.pool_state.proofs.Changing.{pool_stands}

fits : (left n : ℕ) → n ≤ left → nat_lt left n ≡ false
fits left n within = grind (arith, nat_tests)

at_most : (left n : ℕ) → n ≤ left → nat_le n left ≡ true
at_most left n within = grind (arith, nat_tests)

push_step : (stamp left : ℕ) (bytes piece : List ℕ) → length piece ≤ left →
    Step any_room (growing stamp None bytes left) (push piece) done (growing stamp None (bytes ++ piece) (left - length piece))
push_step stamp left bytes piece within = rw (fits left (length piece) within) (refl, rw (at_most left (length piece) within) refl)

-- a growing block's files don't depend on how far it has grown
grown : (M : List ℕ → Replica → Type 0) (view : View) (books : BlockBooks) (stamp left left' : ℕ) (bytes bytes' : List ℕ) →
    Agrees books.entry (growing stamp None bytes' left') →
    BlockStands M view books (growing stamp None bytes left) → BlockStands M view books (growing stamp None bytes' left')
grown M view books stamp left left' bytes bytes' agrees own = record {
  agrees = agrees;
  content = tt;
  accounted = own.accounted;
  apart = own.apart;
  leftovers = own.leftovers;
  settled = own.settled;
  stamp = own.stamp;
  writer = own.writer;
  ticket = own.ticket;
}

pub pushes : {room : Room} (told : Option (List World)) (volumes : ℕ) (books : ℕ → BlockBooks) (cells : Cells) (w : Writer) (bytes piece : List ℕ) (stamp' len' reserved' : ℕ) →
    WriterStands told books w bytes → cells w.id ≡ growing w.stamp None bytes (w.reserved - w.len) →
    length piece ≤ w.reserved - w.len → stamp' ≡ w.stamp → len' ≡ w.len + length piece → reserved' ≡ w.reserved →
    StepsTo room w.id (push piece) done (λ cell. cell ≡ growing stamp' None (bytes ++ piece) (reserved' - len')) cells (PoolStands told volumes books) (PoolStands told volumes books)
pushes told volumes books cells w bytes piece stamp' len' reserved' belongs grows within same_stamp longer same_reserved =
    let rest : (w.reserved - w.len) - length piece ≡ reserved' - len' = omega (arith, within, longer, same_reserved) in
    let after = growing w.stamp None (bytes ++ piece) ((w.reserved - w.len) - length piece) in
    let writer : TenureWriter = writer_at w.stamp w.vol w.reserved belongs.rev belongs.block_number belongs.meta_number in
    let agrees : Agrees (written_books None [] None writer).entry after =
    (refl, omega (arith, length-append bytes piece, within, belongs.pushed.len, belongs.pushed.within), tt) in
    record {
      cell = after;
      step = subst (λ c. Step any_room c (push piece) done after) (sym grows)
          (push_step w.stamp (w.reserved - w.len) bytes piece within);
      says = ap (λ n. growing w.stamp None (bytes ++ piece) n) rest ∙ ap (λ s. growing s None (bytes ++ piece) (reserved' - len')) (sym same_stamp);
      stands = λ known stands. pool_stands stands w.id belongs.valid.0 {step = Stays} (reaches_same w.id told told refl) refl (record {
        fit = record {
          agrees = agrees;
          placed = subst (λ (b : BlockBooks). IfSome b.entry (λ e. IsVolume volumes e.vol)) belongs.is (stands.fit w.id belongs.valid.0).placed;
          left_placed = tt;
          clean = λ not. refl;
          fresh = refl;
        };
        own = λ before after_view stepped own. subst (λ v. BlockStands (Fits known w.id) v (written_books None [] None writer) after) (sym stepped)
            (grown (Fits known w.id) before (written_books None [] None writer) w.stamp (w.reserved - w.len) ((w.reserved - w.len) - length piece) bytes (bytes ++ piece) agrees
            (subst (BlockStands (Fits known w.id) before (written_books None [] None writer)) grows
            (subst (λ b. BlockStands (Fits known w.id) before b (cells w.id)) belongs.is own)));
      }) (λ other. elim (cases_eq other w.id) [
        | inl same ↦ rw (eq-eqb other w.id same) (ap books same ∙ belongs.is)
        | inr apart ↦ rw (ne_eqb other w.id apart) refl
      ]);
    }
