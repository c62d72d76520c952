use Rattle.std.proofs.Common.{◌≡◌, map, drop}
use Rattle.script_lang.specs.Names.{are_distinct}
use Rattle.script_lang.proofs.names.are_distinct.Given as goal

abbrev pub invariant-loop-at : goal.invariant-loop-at
invariant-loop-at l = are_distinct (map (λ text. text.now) (drop l.at l.texts)) ≡ are_distinct (map (λ text. text.now) l.texts)
