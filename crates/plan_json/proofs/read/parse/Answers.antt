use Rattle.std.proofs.Common.{inr, refl, ◌∙◌, ◌≡◌, true, false}
use Rattle.plan_json.proofs.ReadingLemmas.{reading-utf8, reading-none}
use Rattle.plan_json.proofs.read.parse.Goals as goal

pub returns-in-Ok-clause-ok : goal.returns-in-Ok-clause-ok
returns-in-Ok-clause-ok c = reading-utf8 c.args.text.now c.in-Ok.ensures.ok.0 ∙ c.in-Ok.ensures.ok.1

pub returns-in-Err-2-clause-err : goal.returns-in-Err-2-clause-err
returns-in-Err-2-clause-err c =
    inr (refl, reading-none c.args.text.now (c.in-Err.ensures.err (λ memory. let clash : false ≡ true = c.if-is_memory.ensures.1 memory in cc)))
