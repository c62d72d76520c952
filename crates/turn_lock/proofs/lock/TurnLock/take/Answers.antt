use Rattle.std.proofs.Common.{rules, sym, ap, ◌∙◌, ◌∷◌, Some}
use Rattle.atomic_table.specs.Table.{rest}
use Rattle.turn_lock.proofs.Steps.{draws_at}
use Rattle.turn_lock.proofs.lock.TurnLock.take.Goals as goal

pub fetch_add-mine-requires : goal.fetch_add-mine-requires
fetch_add-mine-requires g c = (search rules, search rules, draws_at _ _ _ _ _ _ c.requires.1.0)

pub exchange-requires : goal.exchange-requires
exchange-requires g c =
    let came = c.wait_for_turn.ensures.due in
    (search rules, (Some came.0, came.1 ∙ ap (λ l. (0, Some came.0) ∷ rest l) (sym came.1)))
