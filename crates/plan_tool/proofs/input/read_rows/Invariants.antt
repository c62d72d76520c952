use Rattle.std.proofs.Common.{◌≡◌, ◌≤◌, ◌-◌, []}
use Rattle.line_io.specs.declared.TheConstants.{INPUT_LIMIT}
use Rattle.line_io.specs.Lines.{OfUnread, terminated_lines}
use Rattle.plan_tool.specs.Rows.{AreRows, input_of, input_from}
use Rattle.plan_tool.proofs.input.read_rows.Given as goal

-- the rows so far, and the lines that are unread, make the whole input
abbrev pub invariant-lines : goal.invariant-lines
invariant-lines g l = record {
  read : OfUnread (λ unread rest. input_of unread ≡ input_from l.number l.reader.count l.rows.items (terminated_lines rest)) []
      (g.S.Source.left l.fn.source) l.reader.bytes (g.S.Source.left l.source);
  are_rows : AreRows l.rows.items;
  counted : l.number ≤ l.reader.count;
  in_limit : l.reader.count ≤ INPUT_LIMIT;
  later : g.S.Source.faults l.fn.source ≤ g.S.Source.faults l.source;
}

-- each line takes a byte of the input, which has a limit
abbrev pub decreases-lines : goal.decreases-lines
decreases-lines g l = INPUT_LIMIT - l.reader.count
