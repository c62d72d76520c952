use Rattle.std.proofs.Common.{◌≤◌, ◌-◌}
use Rattle.line_io.specs.declared.TheConstants.{INPUT_LIMIT}
use Rattle.disk_model.specs.Marks.{GoesOn, faulty_of, mark_of}
use Rattle.pool_state.specs.Foreign.{LeavesForeign}
use Rattle.run_model.specs.State.{RunState}
use Rattle.run_session.specs.Standing.{SessionStands, SoundFor}
use Rattle.dn_play.proofs.Progress.{Progress}
use Rattle.dn_play.proofs.lines.play_lines.Given as goal

abbrev pub invariant-lines : goal.invariant-lines
invariant-lines g l = record {
  progress : (state : RunState) → SessionStands l.fn.session state →
      Progress (faulty_of g.D.Draft.Draft g.D.Reader.Reader) (g.D.PoolDisks.worlds l.fn.session.pool.disks) state
      (mark_of g.D.PoolDisks l.fn.session.pool.disks) (mark_of g.D.PoolDisks l.session.pool.disks)
      (g.S.Source.left l.fn.source) (g.S.Source.left l.source) l.reader.bytes l.number l.reader.count (g.K.Sink.taken l.fn.sink) (g.K.Sink.taken l.sink)
      (SessionStands l.session)
      (SoundFor l.fn.session) (SoundFor l.session)
      (g.D.PoolDisks.left_since l.fn.session.pool.disks) (g.D.PoolDisks.left_since l.session.pool.disks);
  went_on : GoesOn g.D.PoolDisks l.fn.session.pool.disks l.session.pool.disks;
  foreign : LeavesForeign g.D.PoolDisks l.fn.session.pool.disks l.session.pool.disks;
  counted : l.number ≤ l.reader.count;
  in_limit : l.reader.count ≤ INPUT_LIMIT;
  later_source : g.S.Source.faults l.fn.source ≤ g.S.Source.faults l.source;
  later_sink : g.K.Sink.faults l.fn.sink ≤ g.K.Sink.faults l.sink;
}

-- each line takes a byte of the input, which has a limit
abbrev pub decreases-lines : goal.decreases-lines
decreases-lines g l = INPUT_LIMIT - l.reader.count
