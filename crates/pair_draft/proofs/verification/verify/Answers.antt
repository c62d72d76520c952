use Rattle.std.proofs.Common.{◌≡◌, ◌+◌, ◌*◌, ◌<◌, length, drop, sym, subst, ◌∙◌, arith, length-drop, Ok}
use Rattle.std.specs.Prelude.{Option, IfOk}
use Rattle.meta_file.specs.Checksums.{chunk_count}
use Rattle.meta_file.specs.declared.verdict.Verdict.{Verdict}
use Rattle.meta_file.specs.Headers.{header_of}
use Rattle.meta_file.proofs.VerdictLemmas.{header_is}
use Rattle.pair_draft.specs.Checking.{CountAnswer}
use Rattle.pair_draft.proofs.Deciding.{verdict_is}
use Rattle.pair_draft.proofs.verification.verify.Goals as goal

pub returns-clause-verdict : goal.returns-clause-verdict
returns-clause-verdict g c = λ all sums block_is meta_is few.
    let header = c.in-Ok.header in
    let read : header_of sums ≡ Ok header = sym (c.in_ok-header.ensures.header sums meta_is) ∙ c.in-Ok.is in
    let stands = header_is sums header read in
    let whole = stands.whole in
    let meta_now = c.read_meta_header.ensures.same.bytes_are ∙ meta_is in
    let answer = c.in_ok-verdict.ensures.answer sums meta_now few in
    let count : length (drop 7 sums) ≡ 4 * chunk_count header.step c.args.len =
    subst (λ (a : Option Verdict). CountAnswer (4 * chunk_count header.step c.args.len) (length (drop 7 sums)) a) c.in_default.is answer
    in
    let len : length sums ≡ 7 + 4 * chunk_count header.step c.args.len = omega (arith, whole, count, length-drop 7 sums) in
    let meta_after = c.check_count.ensures.same.bytes_are ∙ meta_now in
    let known = c.if-header-eq0.false in
    let some : 0 < header.kind = omega (arith, known) in
    subst (λ (v : Verdict). IfOk c.check_chunks.result (λ verdict. verdict ≡ v)) (verdict_is sums all c.args.len header read some count)
    (c.check_chunks.ensures.verdict all sums block_is meta_after len)
