use Rattle.std.proofs.Common.{ap, subst}
use Rattle.script_lang.specs.declared.line.Line.TheVariants.{Client}
use Rattle.map_model.specs.Steps.{push, write}
use Rattle.run_model.specs.Commands.{CommandStep}
use Rattle.disk_model.specs.Marks.{faulty_of, mark_of}
use Rattle.run_session.proofs.Stepped.{carried}
use Rattle.run_session.proofs.session.Session.carry_out.Goals as goal

pub returns-in-Open-clause-step : goal.returns-in-Open-clause-step
returns-in-Open-clause-step g c state standing = let t = c.open.ensures.step state standing in carried (ap Client c.in-Open.is) t.new t.stands t.step t.crash

pub returns-in-Push-clause-step : goal.returns-in-Push-clause-step
returns-in-Push-clause-step g c state standing =
    let t = c.push.ensures.step state standing in
    carried (ap Client c.in-Push.is) t.new t.stands (λ trust known. subst (λ piece. CommandStep trust (faulty_of g.D.Draft.Draft g.D.Reader.Reader) state
    (mark_of g.D.PoolDisks c.args.self.now.pool.disks) c.in-Push.id (push piece) c.push.result t.new
    (mark_of g.D.PoolDisks c.push.new.self.pool.disks)) c.as_slice.ensures (t.step trust known)) t.crash

pub returns-in-Finish-clause-step : goal.returns-in-Finish-clause-step
returns-in-Finish-clause-step g c state standing = let t = c.finish.ensures.step state standing in carried (ap Client c.in-Finish.is) t.new t.stands t.step t.crash

pub returns-in-Read-clause-step : goal.returns-in-Read-clause-step
returns-in-Read-clause-step g c state standing = let t = c.read.ensures.step state standing in carried (ap Client c.in-Read.is) t.new t.stands t.step t.crash

pub returns-in-Write-clause-step : goal.returns-in-Write-clause-step
returns-in-Write-clause-step g c state standing =
    let t = c.write.ensures.step state standing in
    carried (ap Client c.in-Write.is) t.new t.stands (λ trust known. subst (λ piece. CommandStep trust (faulty_of g.D.Draft.Draft g.D.Reader.Reader) state
    (mark_of g.D.PoolDisks c.args.self.now.pool.disks) c.in-Write.id (write c.in-Write.stamp piece) c.write.result t.new
    (mark_of g.D.PoolDisks c.write.new.self.pool.disks)) c.as_slice-in-Write.ensures (t.step trust known)) t.crash

pub returns-in-Delete-clause-step : goal.returns-in-Delete-clause-step
returns-in-Delete-clause-step g c state standing = let t = c.delete.ensures.step state standing in carried (ap Client c.in-Delete.is) t.new t.stands t.step t.crash

pub returns-in-Drop-clause-step : goal.returns-in-Drop-clause-step
returns-in-Drop-clause-step g c state standing = let t = c.drop_writer.ensures.step state standing in carried (ap Client c.in-Drop.is) t.new t.stands t.step t.crash
