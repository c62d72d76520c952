use Rattle.std.proofs.Common.{◌+◌, ap, Ok, Err, arith}
use Rattle.plan_tool.proofs.Inputs.{read_nothing, read_all, read_fault, read_line, read_outside, fault_of_rows, line_of_rows, from_source, rose_from, no_rows}
use Rattle.plan_tool.proofs.input.read_rows.Goals as goal

pub lines-init : goal.lines-init
lines-init g c = let none_yet = c.new-reader.ensures.count in record {
  read = read_nothing (g.S.Source.left c.args.source.now) c.new-reader.result.bytes c.new-reader.result.count c.new-rows.result.items
      c.new-reader.ensures.nothing c.new-reader.ensures.count c.new-rows.ensures.items;
  are_rows = no_rows c.new-rows.result.items c.new-rows.ensures.items;
  counted = omega arith;
  in_limit = omega arith;
  later = omega arith;
}

pub returns-in-Err-clause-err : goal.returns-in-Err-clause-err
returns-in-Err-clause-err g c =
    read_fault (g.S.Source.left c.args.source.now) (g.S.Source.left c.lines.source) c.lines.reader.bytes c.lines.number c.lines.reader.count c.lines.rows.items
    c.lines.invariant.read c.in-Err.fault c.of_read.result c.of_read.ensures.ending (λ e. c.in-Err.ensures.limit (ap Err e))

pub returns-in-Err-clause-of_rows : goal.returns-in-Err-clause-of_rows
returns-in-Err-clause-of_rows g c = fault_of_rows _ _ _ c.of_read.ensures.ending

pub returns-in-Err-clause-source : goal.returns-in-Err-clause-source
returns-in-Err-clause-source g c = λ e. rose_from _ (g.S.Source.faults c.lines.source) _ c.lines.invariant.later
    (c.in-Err.ensures.source (ap Err (from_source _ _ _ _ c.of_read.ensures.ending e)))

pub returns-then-not-found-clause-ok : goal.returns-then-not-found-clause-ok
returns-then-not-found-clause-ok g c =
    read_all (g.S.Source.left c.args.source.now) (g.S.Source.left c.lines.source) c.lines.reader.bytes c.lines.number c.lines.reader.count c.lines.rows.items
    c.lines.invariant.read (g.S.Source.left c.next_line.new.source) c.next_line.new.self.bytes (c.in-Ok-next_line.ensures.ended (ap Ok c.if-not-found.true))

pub returns-in-Err-add_line-clause-err : goal.returns-in-Err-add_line-clause-err
returns-in-Err-add_line-clause-err g c =
    read_outside (g.S.Source.left c.args.source.now) (g.S.Source.left c.lines.source) c.lines.reader.bytes c.lines.number c.lines.reader.count c.lines.rows.items
    c.lines.invariant.read (g.S.Source.left c.next_line.new.source) c.next_line.new.self.bytes c.next_line.new.self.count c.next_line.new.line.items
    c.deref.result.now c.deref.ensures.value (c.in-Ok-next_line.ensures.line (ap Ok c.if-not-found.false)) c.in-Err-add_line.ending c.in-Err-add_line.ensures.err

pub returns-in-Err-add_line-clause-of_rows : goal.returns-in-Err-add_line-clause-of_rows
returns-in-Err-add_line-clause-of_rows g c = line_of_rows c.lines.rows.items (c.lines.number + 1) c.deref.result.now c.in-Err-add_line.ending c.in-Err-add_line.ensures.err

pub lines-preserved : goal.lines-preserved
lines-preserved g c =
    let a = c.in-Ok-next_line.ensures.counted (ap Ok c.if-not-found.false) in
    let b = c.in-Ok-next_line.ensures.in_limit (ap Ok c.if-not-found.false) in
    record {
      read = read_line (g.S.Source.left c.args.source.now) (g.S.Source.left c.lines.source) c.lines.reader.bytes c.lines.number c.lines.reader.count c.lines.rows.items
          c.lines.invariant.read (g.S.Source.left c.next_line.new.source) c.next_line.new.self.bytes c.next_line.new.self.count c.next_line.new.line.items
          c.deref.result.now c.deref.ensures.value (c.in-Ok-next_line.ensures.line (ap Ok c.if-not-found.false)) c.add_line.new.rows.items c.in-Ok-add_line.ensures.ok;
      are_rows = c.in-Ok-add_line.ensures.rows;
      counted = (let n = c.lines.invariant.counted in omega (arith, a, n));
      in_limit = b;
      later = omega (arith, c.lines.invariant.later, c.in-Ok-next_line.ensures.later);
    }
