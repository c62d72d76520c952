use Rattle.std.proofs.Common.{arith, ℕ}
use Rattle.std.proofs.lemmas.List.{length-drop, take_rest}
use Rattle.line_io.proofs.Appending.{appends_more}
use Rattle.line_io.proofs.writing.write_all.Goals as goal

pub pieces-preserved : goal.pieces-preserved
pieces-preserved g c = record {
  inside = omega (arith, c.in_ok-taken.ensures.bound, length-drop {A = ℕ});
  taken = appends_more _ (g.K.Sink.taken c.pieces.sink) _ c.args.piece.now c.pieces.done c.in_ok-taken.taken _ (take_rest c.args.piece.now c.pieces.done) c.pieces.invariant.taken c.in_ok-taken.ensures.bytes;
  later = omega (arith, c.in_ok-taken.ensures.cause.later);
}
