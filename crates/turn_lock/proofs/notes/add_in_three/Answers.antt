use Rattle.std.proofs.Common.{subst}
use Rattle.turn_lock.specs.declared.view.View.{View}
use Rattle.turn_lock.specs.declared.notes.NoteEntry.{NoteEntry}
use Rattle.turn_lock.specs.Notes.{Worked}
use Rattle.turn_lock.proofs.Calls.{merged, one_view, two_view, three_view, last_view}
use Rattle.turn_lock.proofs.notes.add_in_three.Goals as goal

pub returns : goal.returns
returns g c =
    let start = c.in-Ok.ensures.ok.1 in
    let stays = c.split-two.ensures.stays.1 in
    let one = c.join-one.result.0.me.0 in
    let two = c.join-one.result.1.0.me.0 in
    let three = c.join-one.result.1.1.me.0 in
    merged c.args.first.now c.args.second.now c.args.third.now c.close-items.result.items.items one two three c.join-2.new.into.me.0
    (subst (λ (v : View NoteEntry). Worked c.args.first.now v one) (one_view _ _ _ start stays c.split-three.ensures.stays.1) c.join-one.ensures.first.2)
    (subst (λ (v : View NoteEntry). Worked c.args.second.now v two) (two_view _ _ start c.split-two.ensures.new.1) c.join-one.ensures.second.0.2)
    (subst (λ (v : View NoteEntry). Worked c.args.third.now v three) (three_view _ _ _ start stays c.split-three.ensures.new.1) c.join-one.ensures.second.1.2)
    (last_view one two three c.join.new.into.me c.join-2.new.into.me c.join.ensures.seat.1 c.join-2.ensures.seat.1)
    c.close-items.ensures.value c.close-items.ensures.own c.close-items.ensures.all
