use Rattle.std.proofs.Common.{◌≡◌, Some, None, sym, ◌∙◌}
use mathlib.Core.Option.{some-injective}
use Rattle.turn_lock.proofs.Opening.{closes, same_value}
use Rattle.turn_lock.proofs.lock.TurnLock.close.Goals as goal

pub unreachable-requires : goal.unreachable-requires
unreachable-requires g c =
    let last = closes _ _ _ _ _ _ _ c.requires.seat.1.0 c.requires.all c.close_with-closed.ensures.values.2 in
    let e : Some last.0.0 ≡ None = some-injective _ _ (sym last.0.1 ∙ c.take.ensures.value) ∙ c.in_default.is in
    cc (e)

pub returns-clause-value : goal.returns-clause-value
returns-clause-value g c =
    let last = closes _ _ _ _ _ _ _ c.requires.seat.1.0 c.requires.all c.close_with-closed.ensures.values.2 in
    same_value g.T.Kept.stands_for last.0.0 c.in-Some.value c.args.seat.me.0.seen (some-injective _ _ (sym last.0.1 ∙ c.take.ensures.value) ∙ c.in-Some.is) last.0.2

pub returns-clause-own : goal.returns-clause-own
returns-clause-own g c = (closes _ _ _ _ _ _ _ c.requires.seat.1.0 c.requires.all c.close_with-closed.ensures.values.2).1

pub returns-clause-apart : goal.returns-clause-apart
returns-clause-apart g c = (closes _ _ _ _ _ _ _ c.requires.seat.1.0 c.requires.all c.close_with-closed.ensures.values.2).2

pub returns-clause-all : goal.returns-clause-all
returns-clause-all g c = (closes _ _ _ _ _ _ _ c.requires.seat.1.0 c.requires.all c.close_with-closed.ensures.values.2).3
