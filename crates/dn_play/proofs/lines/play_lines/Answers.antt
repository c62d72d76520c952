use Rattle.std.proofs.Common.{ap, sym, subst, Ok, Err, arith}
use Rattle.run_end.specs.declared.ending.Ending.{Ending}
use Rattle.run_end.specs.Ending.{IsOfReading}
use Rattle.dn_play.specs.Answer.{Played}
use Rattle.disk_model.specs.Marks.{faulty_of, mark_of}
use Rattle.run_model.specs.Carrying.{LeavesAllowed, AnyCells}
use Rattle.run_session.specs.Standing.{SessionStands, SoundFor}
use Rattle.run_session.proofs.Stepping.{rose_from}
use Rattle.dn_play.proofs.Progress.{starts, goes_on_by, played_nothing, played_complete, played_fault, played_unanswered, played_less, ends_lines, answered_complete, answered_source}
use Rattle.dn_play.proofs.Crashes.{now_safe, leaves_safe}
use Rattle.disk_model.proofs.GoingOn.{went_same, went_then}
use Rattle.pool_state.proofs.Foreign.{foreign_same, foreign_then}
use Rattle.dn_play.proofs.lines.play_lines.Goals as goal

pub returns-in_default-clause-played : goal.returns-in_default-clause-played
returns-in_default-clause-played g c state standing =
    played_less {StandsFor = SessionStands c.args.session.now}
    (played_nothing standing (now_safe standing.pool (g.met.D.PoolDisks.only_now c.args.session.now.pool.disks)) _ _) (λ s stood. leaves_safe stood.pool)

pub lines-init : goal.lines-init
lines-init g c = let none_yet = c.new-reader.ensures.count in record {
  progress = λ state standing. starts standing (now_safe standing.pool (g.met.D.PoolDisks.only_now c.args.session.now.pool.disks)) _ _ _ _ c.new-reader.ensures.nothing c.new-reader.ensures.count;
  went_on = went_same _ _;
  foreign = foreign_same _ _;
  counted = omega arith;
  in_limit = omega arith;
  later_source = omega arith;
  later_sink = omega arith;
}

pub returns-in-Err-clause-played : goal.returns-in-Err-clause-played
returns-in-Err-clause-played g c state standing =
    subst (λ (ending : Ending). Played (faulty_of g.D.Draft.Draft g.D.Reader.Reader) (g.D.PoolDisks.worlds c.args.session.now.pool.disks) state
    (mark_of g.D.PoolDisks c.args.session.now.pool.disks) (mark_of g.D.PoolDisks c.lines.session.pool.disks)
    (g.S.Source.left c.args.source.now) (g.K.Sink.taken c.args.sink.now) (g.K.Sink.taken c.lines.sink) ending
    (LeavesAllowed (g.D.PoolDisks.worlds c.lines.session.pool.disks))
    (SoundFor c.args.session.now) AnyCells
    (g.D.PoolDisks.left_since c.args.session.now.pool.disks) (g.D.PoolDisks.left_since c.lines.session.pool.disks)) (sym c.of_read.ensures.ending)
    (played_less {StandsFor = SessionStands c.lines.session}
    (played_fault _ (g.S.Source.left c.lines.source) c.lines.reader.bytes c.lines.number c.lines.reader.count _ _ (c.lines.invariant.progress state standing) c.in-Err.fault (λ e. c.in-Err.ensures.limit (ap Err e)))
    (λ s stood. leaves_safe stood.pool))

pub returns-in-Err-clause-of_lines : goal.returns-in-Err-clause-of_lines
returns-in-Err-clause-of_lines g c = ends_lines _ _ _ c.of_read.ensures.ending

pub returns-in-Err-clause-at_end : goal.returns-in-Err-clause-at_end
returns-in-Err-clause-at_end g c = λ e. absurd (subst IsOfReading e c.of_read.ensures.reading)

pub returns-in-Err-clause-source : goal.returns-in-Err-clause-source
returns-in-Err-clause-source g c = λ e. rose_from _ (g.S.Source.faults c.lines.source) _ c.lines.invariant.later_source (c.in-Err.ensures.source (ap Err (c.of_read.ensures.source e)))

pub returns-in-Err-clause-sink : goal.returns-in-Err-clause-sink
returns-in-Err-clause-sink g c = λ e. absurd (subst IsOfReading e c.of_read.ensures.reading)

pub returns-then-not-found-clause-played : goal.returns-then-not-found-clause-played
returns-then-not-found-clause-played g c state standing =
    played_less {StandsFor = SessionStands c.lines.session}
    (played_complete _ (g.S.Source.left c.lines.source) c.lines.reader.bytes c.lines.number c.lines.reader.count _ _ (c.lines.invariant.progress state standing)
    (g.S.Source.left c.next_line.new.source) c.next_line.new.self.bytes (c.in-Ok-next_line.ensures.ended (ap Ok c.if-not-found.true)))
    (λ s stood. leaves_safe stood.pool)

pub returns-then-not-found-clause-at_end : goal.returns-then-not-found-clause-at_end
returns-then-not-found-clause-at_end g c = λ _. c.in-Ok-next_line.ensures.at_end (ap Ok c.if-not-found.true)

pub answer-requires : goal.answer-requires
answer-requires g c = let p = c.lines.invariant.progress c.requires.stands.0 c.requires.stands.1 in record { stands = (_, p.stands) }

pub returns-in-Err-answer-clause-played : goal.returns-in-Err-answer-clause-played
returns-in-Err-answer-clause-played g c state standing =
    let p = c.lines.invariant.progress state standing in
    played_unanswered _ (g.S.Source.left c.lines.source) c.lines.reader.bytes c.lines.number c.lines.reader.count _ _ p
    (g.D.PoolDisks.worlds c.lines.session.pool.disks) c.lines.invariant.went_on.honest.0 (g.S.Source.left c.next_line.new.source) c.next_line.new.self.bytes c.next_line.new.self.count _ c.next_line.new.line.items c.deref.result.now c.deref.ensures.value
    (c.in-Ok-next_line.ensures.line (ap Ok c.if-not-found.false)) _ (c.in-Err-answer.ensures.err _ p.stands)

pub returns-in-Err-answer-clause-goes_on : goal.returns-in-Err-answer-clause-goes_on
returns-in-Err-answer-clause-goes_on g c = went_then _ _ _ _ c.lines.invariant.went_on c.in-Err-answer.ensures.goes_on

pub returns-in-Err-answer-clause-foreign : goal.returns-in-Err-answer-clause-foreign
returns-in-Err-answer-clause-foreign g c = foreign_then c.lines.invariant.foreign c.in-Err-answer.ensures.foreign

pub returns-in-Err-answer-clause-at_end : goal.returns-in-Err-answer-clause-at_end
returns-in-Err-answer-clause-at_end g c =
    let p = c.lines.invariant.progress c.requires.stands.0 c.requires.stands.1 in
    let u = c.in-Err-answer.ensures.err _ p.stands in
    λ e. absurd (answered_complete _ _ _ _ u.says e)

pub returns-in-Err-answer-clause-source : goal.returns-in-Err-answer-clause-source
returns-in-Err-answer-clause-source g c =
    let p = c.lines.invariant.progress c.requires.stands.0 c.requires.stands.1 in
    let u = c.in-Err-answer.ensures.err _ p.stands in
    λ e. absurd (answered_source _ _ _ _ u.says e)

pub lines-smaller : goal.lines-smaller
lines-smaller g c = let a = c.in-Ok-next_line.ensures.counted (ap Ok c.if-not-found.false) in let b = c.in-Ok-next_line.ensures.in_limit (ap Ok c.if-not-found.false) in omega (arith, a, b)

pub lines-preserved : goal.lines-preserved
lines-preserved g c =
    let a = c.in-Ok-next_line.ensures.counted (ap Ok c.if-not-found.false) in
    let b = c.in-Ok-next_line.ensures.in_limit (ap Ok c.if-not-found.false) in
    record {
      progress = λ state standing.
          let p = c.lines.invariant.progress state standing in
          goes_on_by _ (g.S.Source.left c.lines.source) c.lines.reader.bytes c.lines.number c.lines.reader.count _ _ p
          (g.D.PoolDisks.worlds c.lines.session.pool.disks) c.lines.invariant.went_on.honest.0 (g.S.Source.left c.next_line.new.source) c.next_line.new.self.bytes c.next_line.new.self.count _ c.next_line.new.line.items c.deref.result.now c.deref.ensures.value
          (c.in-Ok-next_line.ensures.line (ap Ok c.if-not-found.false)) (c.in-Ok-answer.ensures.ok _ p.stands);
      went_on = went_then _ _ _ _ c.lines.invariant.went_on c.in-Ok-answer.ensures.goes_on;
      foreign = foreign_then c.lines.invariant.foreign c.in-Ok-answer.ensures.foreign;
      counted = (let n = c.lines.invariant.counted in omega (arith, a, n));
      in_limit = b;
      later_source = omega (arith, c.lines.invariant.later_source, c.in-Ok-next_line.ensures.later);
      later_sink = omega (arith, c.lines.invariant.later_sink, c.in-Ok-answer.ensures.later);
    }
