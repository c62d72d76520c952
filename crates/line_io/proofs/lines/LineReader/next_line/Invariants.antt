use Rattle.std.proofs.Common.{◌≡◌, ◌+◌, ◌-◌, ◌<◌, ◌≤◌, ◌++◌, length}
use Rattle.line_io.specs.Lines.{HasNoLineFeed, OfUnread}
use Rattle.line_io.specs.declared.TheConstants.{LINE_LIMIT, INPUT_LIMIT}
use Rattle.line_io.proofs.lines.LineReader.next_line.Given as goal

abbrev pub invariant-pieces : goal.invariant-pieces
invariant-pieces g l = record {
  no_feed : HasNoLineFeed l.line.items;
  short : length l.line.items ≤ LINE_LIMIT;
  counted : l.self.count ≡ l.fn.self.count + length l.line.items;
  in_limit : 0 < length l.line.items → l.self.count ≤ INPUT_LIMIT;
  told : OfUnread (λ unread rest. unread ≡ l.line.items ++ rest) l.fn.self.bytes (g.S.Source.left l.fn.source) l.self.bytes (g.S.Source.left l.source);
  later : g.S.Source.faults l.fn.source ≤ g.S.Source.faults l.source;
}

-- each turn adds a byte to the line, which has a limit
abbrev pub decreases-pieces : goal.decreases-pieces
decreases-pieces g l = LINE_LIMIT - length l.line.items
