use Rattle.turn_lock.proofs.Replaying.{own_entries_suffice}
use Rattle.turn_lock.proofs.laws.own_entries_suffice.Goals as goal

pub returns : goal.returns
returns g c = own_entries_suffice g.row.S.Denot g.T.Kept.seat_of
