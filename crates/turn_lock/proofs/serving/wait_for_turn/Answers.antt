use Rattle.std.proofs.Common.{rules, ap, ◌∙◌}
use Rattle.turn_lock.proofs.Steps.{looks_at}
use Rattle.turn_lock.proofs.serving.wait_for_turn.Goals as goal

pub load-served-requires : goal.load-served-requires
load-served-requires g c =
    let same = c.loop.invariant.1 in
    (search rules, search rules, looks_at _ _ _ _ _ _ c.args.mine (ap (λ m. m.0.stage) same ∙ c.requires.drawn) (ap (λ m. m.1) same ∙ c.requires.slot))
