use Rattle.std.proofs.Common.{◌≡◌, ◌≤◌, ◌∙◌, ap, Some, length, lit≤}
use Rattle.serde_json.specs.Data.{depth}
use Rattle.serde_json.specs.Written.{compact_text, has_float}
use Rattle.serde_json.specs.View.{view}
use Rattle.scan_cursor.specs.Written.{cursor_value}
use Rattle.scan_cursor.proofs.ReadingLemmas.{reading-utf8}
use Rattle.scan_cursor.proofs.WrittenLemmas.{cursor_of-cursor_value, length-cursor_text, cursor_in-read}
use Rattle.scan_cursor.proofs.write.write_cursor.Goals as goal

pub returns-clause-text : goal.returns-clause-text
returns-clause-text c =
    let is : view c.in_ok-value.value ≡ cursor_value c.args.cursor.now = c.in_ok-value.ensures.value in
    c.in_ok-bytes.ensures.text (ap has_float is) ∙ ap compact_text is

pub returns-clause-reads_back : goal.returns-clause-reads_back
returns-clause-reads_back c =
    let cursor = c.args.cursor.now in
    let is : view c.in_ok-value.value ≡ cursor_value cursor = c.in_ok-value.ensures.value in
    let text = c.in_ok-bytes.ensures.text (ap has_float is) ∙ ap compact_text is in
    let low : depth (view c.in_ok-value.value) ≤ 127 = rw is (lit≤ tt) in
    let short : length c.in_ok-bytes.bytes.items ≤ 4096 = rw text (length-cursor_text cursor c.requires c.in_ok-value.ensures.start c.in_ok-value.ensures.saved) in
    cursor_in-read _ (cursor_value cursor) short (reading-utf8 _ c.in_ok-bytes.ensures.utf8 ∙ c.in_ok-bytes.ensures.reads_back low ∙ ap Some is)
    ∙ cursor_of-cursor_value cursor c.requires
