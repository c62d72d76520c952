use Rattle.std.proofs.Common.{◌≡◌, ◌++◌, ◌∷◌, [], map, take, get_or, ap, sym, ◌∙◌, codes, append_assoc}
use Rattle.std.proofs.lemmas.List.{map_more}
use Rattle.script_lang.specs.PlanRefusal.{in_one_line}
use Rattle.script_lang.proofs.reply.plan_refusal.write_invalid_volume.Goals as goal

pub loop-b-preserved : goal.loop-b-preserved
loop-b-preserved c =
    let uuid = c.args.uuid.now in
    let i = c.loop-b.b-index in
    let shown = map in_one_line (take i uuid) in
    let one : c.in_one_line.result ≡ in_one_line (get_or uuid i 0) = c.in_one_line.ensures in
    c.in_ok-push.ensures.items ∙ ap (λ xs. xs ++ c.in_one_line.result ∷ []) c.loop-b.invariant
    ∙ append_assoc (codes "invalidvolume ") shown (c.in_one_line.result ∷ [])
    ∙ ap (λ xs. codes "invalidvolume " ++ xs) (ap (λ x. shown ++ x ∷ []) one ∙ sym (map_more in_one_line uuid i 0 c.loop-b-test.true))
