use Rattle.line_io.proofs.Feeds.{feed_within, feed_found, no_feed_until, no_feed_at_all}
use Rattle.line_io.proofs.lines.line_feed_at.Goals as goal

pub returns : goal.returns
returns c = record {
  within = feed_within c.args.bytes.now c.memchr.result c.memchr.ensures;
  found = feed_found c.args.bytes.now c.memchr.result c.memchr.ensures;
  before = no_feed_until c.args.bytes.now c.memchr.result c.memchr.ensures;
  none = no_feed_at_all c.args.bytes.now c.memchr.result c.memchr.ensures;
}
