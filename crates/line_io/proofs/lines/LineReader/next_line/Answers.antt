use Rattle.std.proofs.Common.{◌<◌, length, ap, ◌∙◌, sym, arith, Err, Ok, refl, vec_len}
use Rattle.std.proofs.lemmas.Result.{err_from_is_err_and}
use Rattle.line_io.proofs.NextLine.{turn_line, turn_limit, turn_limit_within, turn_goes_on, turn_no_feed, turn_last, err_at, turn_counted, not_empty}
use Rattle.line_io.proofs.lines.LineReader.next_line.Goals as goal

pub returns-then-not-branch-clause-line : goal.returns-then-not-branch-clause-line
returns-then-not-branch-clause-line g c = λ found.
    let ended = c.in_ok-refill.ensures.none (ap Ok c.if-not-branch.true) in
    let some : 0 < length c.pieces.line.items = let n = not_empty (vec_len c.pieces.line) c.is_empty.result c.is_empty.ensures found in omega (arith, n) in
    turn_last _ _ c.pieces.line.items _ _ c.refill.new.self.bytes _ _ (g.S.Source.left c.pieces.source) (g.S.Source.left c.refill.new.source) _
    (record { no_feed = c.pieces.invariant.no_feed; counted = c.in_ok-refill.ensures.count ∙ c.pieces.invariant.counted; told = c.pieces.invariant.told; same = c.in_ok-refill.ensures.same; shown_is = refl })
    ended.0 ended.1 some c.pieces.invariant.short refl (let i = c.pieces.invariant.in_limit some in omega (arith, i, c.in_ok-refill.ensures.count))

pub returns-in_err-hand_out-in-Some-clause-limit : goal.returns-in_err-hand_out-in-Some-clause-limit
returns-in_err-hand_out-in-Some-clause-limit g c = λ is.
    let p = err_from_is_err_and c.from_residual-in_err-hand_out-in-Some.result c.from_residual-in_err-hand_out-in-Some.ensures.1 in
    turn_limit _ _ c.pieces.line.items _ _ c.pending-pending.result.now _ _ (g.S.Source.left c.pieces.source) (g.S.Source.left c.refill.new.source) c.in-Some.at
    (record { no_feed = c.pieces.invariant.no_feed; counted = c.in_ok-refill.ensures.count ∙ c.pieces.invariant.counted; told = c.pieces.invariant.told; same = c.in_ok-refill.ensures.same; shown_is = c.pending-pending.ensures })
    (record { inside = c.in-Some.ensures.within; is = c.in-Some.ensures.found; before = c.in-Some.ensures.before })
    (c.in_err-hand_out-in-Some.ensures.limit (err_at _ _ (ap Err (sym p.2) ∙ sym p.1 ∙ is)))

pub returns-in-Some-clause-line : goal.returns-in-Some-clause-line
returns-in-Some-clause-line g c = λ _.
    turn_line _ _ c.pieces.line.items _ _ c.pending-pending.result.now _ _ (g.S.Source.left c.pieces.source) (g.S.Source.left c.refill.new.source) c.in-Some.at _ _ _
    (record { no_feed = c.pieces.invariant.no_feed; counted = c.in_ok-refill.ensures.count ∙ c.pieces.invariant.counted; told = c.pieces.invariant.told; same = c.in_ok-refill.ensures.same; shown_is = c.pending-pending.ensures })
    (record { inside = c.in-Some.ensures.within; is = c.in-Some.ensures.found; before = c.in-Some.ensures.before })
    c.in_ok-hand_out-in-Some.ensures.line c.in_ok-hand_out-in-Some.ensures.rest c.in_ok-hand_out-in-Some.ensures.count c.in_ok-hand_out-in-Some.ensures.line_limit c.in_ok-hand_out-in-Some.ensures.input_limit

pub returns-in_err-hand_out-in-None-clause-limit : goal.returns-in_err-hand_out-in-None-clause-limit
returns-in_err-hand_out-in-None-clause-limit g c = λ is.
    let p = err_from_is_err_and c.from_residual-in_err-hand_out-in-None.result c.from_residual-in_err-hand_out-in-None.ensures.1 in
    turn_limit_within _ _ c.pieces.line.items _ _ c.pending-pending.result.now _ _ (g.S.Source.left c.pieces.source) (g.S.Source.left c.refill.new.source) (length c.pending-pending.result.now)
    (record { no_feed = c.pieces.invariant.no_feed; counted = c.in_ok-refill.ensures.count ∙ c.pieces.invariant.counted; told = c.pieces.invariant.told; same = c.in_ok-refill.ensures.same; shown_is = c.pending-pending.ensures })
    c.in-None.ensures.none (c.in_ok-refill.ensures.some (ap Ok c.if-not-branch.false)) refl
    (c.in_err-hand_out-in-None.ensures.limit (err_at _ _ (ap Err (sym p.2) ∙ sym p.1 ∙ is)))

pub pieces-preserved : goal.pieces-preserved
pieces-preserved g c = record {
  no_feed = turn_no_feed _ _ c.pieces.line.items _ _ c.pending-pending.result.now _ _ (g.S.Source.left c.pieces.source) (g.S.Source.left c.refill.new.source) (length c.pending-pending.result.now) _
      (record { no_feed = c.pieces.invariant.no_feed; counted = c.in_ok-refill.ensures.count ∙ c.pieces.invariant.counted; told = c.pieces.invariant.told; same = c.in_ok-refill.ensures.same; shown_is = c.pending-pending.ensures })
      c.in-None.ensures.none refl c.in_ok-hand_out-in-None.ensures.line;
  short = c.in_ok-hand_out-in-None.ensures.line_limit;
  counted = turn_counted _ _ c.pieces.line.items _ _ c.pending-pending.result.now _ _ (g.S.Source.left c.pieces.source) (g.S.Source.left c.refill.new.source) _ (length c.pending-pending.result.now) _
      (record { no_feed = c.pieces.invariant.no_feed; counted = c.in_ok-refill.ensures.count ∙ c.pieces.invariant.counted; told = c.pieces.invariant.told; same = c.in_ok-refill.ensures.same; shown_is = c.pending-pending.ensures })
      refl c.in_ok-hand_out-in-None.ensures.line c.in_ok-hand_out-in-None.ensures.count;
  in_limit = λ _. c.in_ok-hand_out-in-None.ensures.input_limit;
  told = turn_goes_on _ _ c.pieces.line.items _ _ c.pending-pending.result.now _ _ (g.S.Source.left c.pieces.source) (g.S.Source.left c.refill.new.source) (length c.pending-pending.result.now) _ _
      (record { no_feed = c.pieces.invariant.no_feed; counted = c.in_ok-refill.ensures.count ∙ c.pieces.invariant.counted; told = c.pieces.invariant.told; same = c.in_ok-refill.ensures.same; shown_is = c.pending-pending.ensures })
      refl c.in_ok-hand_out-in-None.ensures.line c.in_ok-hand_out-in-None.ensures.rest;
  later = omega (arith, c.in_ok-refill.ensures.cause.later);
}
