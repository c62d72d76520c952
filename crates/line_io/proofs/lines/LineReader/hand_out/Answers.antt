use Rattle.std.proofs.Common.{◌≤◌, drop, ap, ◌∙◌, sym, subst, length}
use Rattle.line_io.specs.Pending.{Pending}
use Rattle.line_io.proofs.Unread.{range_rest, range_holds}
use Rattle.line_io.proofs.lines.LineReader.hand_out.Goals as goal

pub returns-clause-rest : goal.returns-clause-rest
returns-clause-rest c =
    let inside : c.args.whole ≤ length c.args.self.now.bytes = c.requires.whole in
    range_rest c.self.inside.buffer.items c.self.inside.start c.self.inside.«end» c.args.whole (range_holds c.self.inside.buffer.items c.self.inside.start c.self.inside.«end» c.args.whole c.self.invariant.0 c.self.invariant.1 (subst (λ (p : Pending). c.args.whole ≤ length p.bytes) (sym c.self.view_is) inside))
    ∙ ap (λ p. drop c.args.whole p.bytes) c.self.view_is
