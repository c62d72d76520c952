-- A text that is the decimal of a number in the range is parsed as that number, and printed again.
use Rattle.std.proofs.Common.{◌≡◌, ℕ, List, Result, Ok, sym, ◌∙◌, ap, arith}
use Rattle.std.specs.Prelude.{decimal}
use Rattle.std.specs.Str.Parse.{ParsesUnsigned}
use Rattle.std.proofs.lemmas.Fmt.{parse-decimal}
use Rattle.std.proofs.lemmas.Slice.Eq.{bytes_eq-Decides}
use Rattle.std.proofs.lemmas.Bool.{false≢true}
use Rattle.volume_layout.specs.Paths.{IsBlockId}
use Rattle.volume_layout.proofs.names.number_in.Goals as goal
use Rattle.volume_layout.proofs.names.number_in.Goals.{else-n-ge1-via-then-n-ge1+then-n+else-eq, else-n-ge1-via-then-n-ge1+else-n, else-n-ge1-via-else-n-ge1}

parsed : {E : Type 0} (n : ℕ) (text : List ℕ) (r : Result ℕ E) → IsBlockId n → text ≡ decimal n → ParsesUnsigned 64 10 text r → r ≡ Ok n
parsed n text r valid same parses = parse-decimal 64 n text r (omega (arith, valid.1)) (omega (arith, valid.1)) same parses

pub returns-in_default-clause-none : goal.returns-in_default-clause-none
returns-in_default-clause-none c n valid same =
    let is = parsed n c.args.text.now c.parse.result valid same c.parse.ensures.value.0 in cc

pub returns-else-n-ge1-clause-none : goal.returns-else-n-ge1-clause-none
returns-else-n-ge1-clause-none c n valid same =
    let is : c.parse.result ≡ Ok n = parsed n c.args.text.now c.parse.result valid same c.parse.ensures.value.0 in
    let one : n ≡ c.in-Ok.n = cc in
    elim c.else-n-ge1.branch [
      | else-n-ge1-via-then-n-ge1+then-n+else-eq w ↦
          let texts : w.format.result.now ≡ c.args.text.now = w.format.ensures.text ∙ (ap decimal (sym one) ∙ sym same) in
          false≢true (sym w.if-eq.false ∙ (w.eq.ensures ∙ (bytes_eq-Decides w.format.result.now c.args.text.now).1 texts))
      | else-n-ge1-via-then-n-ge1+else-n w ↦ absurd (omega (arith, one, valid.1))
      | else-n-ge1-via-else-n-ge1 w ↦ absurd (omega (arith, one, valid.0))
    ]
