use Rattle.std.proofs.Common.{◌≡◌, ℕ, ◌+◌, ◌*◌, ◌<◌, List, length, drop, sym, ap, subst, ◌∙◌, arith}
use Rattle.std.specs.Prelude.{Option}
use Rattle.meta_file.specs.Checksums.{chunk_count}
use Rattle.meta_file.specs.declared.verdict.Verdict.{Verdict}
use Rattle.meta_file.specs.Sums.{polynomial}
use Rattle.meta_file.specs.Verdicts.{given_chunks, sums_verdict}
use Rattle.pair_draft.specs.Checking.{PieceAnswer}
use Rattle.pair_draft.proofs.Deciding.{whole}
use Rattle.pair_draft.proofs.verification.check_chunks.Goals as goal

same_verdict : (kind step len later_kind later_step later_len : ℕ) (sums all : List ℕ) → later_kind ≡ kind → later_step ≡ step → later_len ≡ len
    → sums_verdict (polynomial later_kind) later_step sums all later_len ≡ sums_verdict (polynomial kind) step sums all len
same_verdict kind step len later_kind later_step later_len sums all same_kind same_step same_len =
    ap (λ (n : ℕ). sums_verdict (polynomial n) later_step sums all later_len) same_kind
    ∙ ap (λ (n : ℕ). sums_verdict (polynomial kind) n sums all later_len) same_step
    ∙ ap (λ (n : ℕ). sums_verdict (polynomial kind) step sums all n) same_len

pub returns-in-Some-clause-verdict : goal.returns-in-Some-clause-verdict
returns-in-Some-clause-verdict g c = λ all sums block_is meta_is length_is.
    let i = c.pieces.invariant in
    let old = c.pieces.checker in
    let len : length sums ≡ 7 + 4 * chunk_count old.summer.step old.len =
    length_is ∙ ap (λ (n : ℕ). 7 + 4 * chunk_count n c.args.len) (sym i.step) ∙ ap (λ (n : ℕ). 7 + 4 * chunk_count old.summer.step n) (sym i.len)
    in
    let answer = c.in_ok-verdict.ensures.answer all sums (i.block.bytes_are ∙ block_is) (i.meta.bytes_are ∙ meta_is) len (i.agrees all sums block_is meta_is length_is) in
    let verdict : c.in-Some.verdict ≡ sums_verdict (polynomial old.summer.kind) old.summer.step (drop 7 sums) all old.len =
    subst (λ (a : Option Verdict). PieceAnswer old c.check_piece.new.checker (drop 7 sums) all a) c.in-Some.is answer
    in
    verdict ∙ same_verdict c.args.header.kind c.args.header.step c.args.len old.summer.kind old.summer.step old.len (drop 7 sums) all i.kind i.step i.len

pub pieces-preserved : goal.pieces-preserved
pieces-preserved g c =
    let i = c.pieces.invariant in
    let e = c.in_ok-verdict.ensures in
    let old = c.pieces.checker in
    record {
      way = e.under_way;
      kind = e.same.kind ∙ i.kind;
      step = e.same.summer_step ∙ i.step;
      limit = e.same.step ∙ i.limit;
      len = e.same.len ∙ i.len;
      block = record { number_is = e.block.number_is ∙ i.block.number_is; bytes_are = e.block.bytes_are ∙ i.block.bytes_are };
      meta = record { number_is = e.meta.number_is ∙ i.meta.number_is; bytes_are = e.meta.bytes_are ∙ i.meta.bytes_are };
      block_later = let more = e.block_later in omega (arith, more, i.block_later);
      meta_later = let more = e.meta_later in omega (arith, more, i.meta_later);
      agrees = λ all sums block_is meta_is length_is.
          let len : length sums ≡ 7 + 4 * chunk_count old.summer.step old.len =
          length_is ∙ ap (λ (n : ℕ). 7 + 4 * chunk_count n c.args.len) (sym i.step) ∙ ap (λ (n : ℕ). 7 + 4 * chunk_count old.summer.step n) (sym i.len)
          in
          subst (λ (a : Option Verdict). PieceAnswer old c.check_piece.new.checker (drop 7 sums) all a) c.in_default.is
          (e.answer all sums (i.block.bytes_are ∙ block_is) (i.meta.bytes_are ∙ meta_is) len (i.agrees all sums block_is meta_is length_is));
    }

pub returns-clause-verdict : goal.returns-clause-verdict
returns-clause-verdict g c = λ all sums block_is meta_is length_is.
    let i = c.pieces.invariant in
    let it = c.pieces.checker in
    let agrees = i.agrees all sums block_is meta_is length_is in
    let within = i.way.within in
    let ended = c.pieces-test.false in
    let end : it.at ≡ it.len = (let l = i.len in omega (arith, within, ended, l)) in
    let reach = agrees.taken.within in
    whole (polynomial it.summer.kind) it.summer.step it.len all (drop 7 sums) (omega (arith, reach, end))
    (λ chunk below. agrees.agree chunk (subst (λ (n : ℕ). chunk < given_chunks it.summer.step it.len n) (sym end) below))
    ∙ same_verdict c.args.header.kind c.args.header.step c.args.len it.summer.kind it.summer.step it.len (drop 7 sums) all i.kind i.step i.len
