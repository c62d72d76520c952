use Rattle.std.proofs.Common.{rules, refl, ap, ◌∙◌}
use Rattle.turn_lock.specs.declared.notes.Notes.{Notes}
use Rattle.turn_lock.proofs.Calls.{kept_more}
use Rattle.turn_lock.proofs.notes.add_item.Goals as goal

pub put_back-requires : goal.put_back-requires
put_back-requires g c =
    let seat = c.take-turn.new.seat.me.0 in
    (search rules, (refl, kept_more seat.seen seat.number c.args.item c.add-kept.result _ _ (ap (λ (n : Notes). n.items.items) c.value.ensures.value ∙ c.take-turn.ensures.value) c.add-kept.ensures))
