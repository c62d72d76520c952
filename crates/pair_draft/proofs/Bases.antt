-- The bytes of a base go into a writer piece by piece.
use Rattle.std.proofs.Common.{◌≡◌, ◌+◌, ◌≤◌, ℕ, List, [], ◌++◌, length, take, drop, sym, ap, ◌∙◌, arith, length-append, refl, Some}
use Rattle.std.specs.Prelude.{Option}
use Rattle.std.proofs.Math.Seq.{take-add}
use Rattle.std.proofs.lemmas.List.{take-append-le, length-take-le}
use Rattle.disk_model.specs.Worlds.{World}
use Rattle.pair_draft.specs.Writers.{Writer, HasPushed}
use Rattle.pair_draft.specs.Bases.{HasBase}

-- nothing was copied yet
pub base_begins : {told : Option (List World)} {w : Writer} (base : Option (List ℕ)) → HasPushed told w [] → HasBase told base 0 w
base_begins base pushed = record { bytes = []; len_is = refl; are = λ all is. refl; pushed = pushed }

-- the next piece, which was read into the front of a buffer, was pushed
pub base_goes_on : {told : Option (List World)} {base : Option (List ℕ)} {old new : Writer} (at have : ℕ) (out rest : List ℕ)
    (so_far : HasBase told base at old) → have ≤ length out → ((all : List ℕ) → base ≡ Some all → take have out ≡ take have (drop at all))
    → HasPushed told new (so_far.bytes ++ take have (out ++ rest)) → HasBase told base (at + have) new
base_goes_on at have out rest so_far within read pushed =
    let front = take-append-le have out rest within in
    let count : length (take have (out ++ rest)) ≡ have = ap length front ∙ length-take-le have out within in
    record {
      bytes = so_far.bytes ++ take have (out ++ rest);
      len_is = length-append so_far.bytes (take have (out ++ rest)) ∙ (let len = so_far.len_is in omega (arith, len, count));
      are = λ all told_is. ap (λ (copied : List ℕ). copied ++ take have (out ++ rest)) (so_far.are all told_is)
          ∙ ap (λ (next : List ℕ). take at all ++ next) (front ∙ read all told_is)
          ∙ sym (take-add at have all);
      pushed = pushed;
    }
