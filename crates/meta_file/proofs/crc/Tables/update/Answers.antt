use Rattle.std.proofs.Common.{◌≡◌, ◌<◌, ◌-◌, get_or, take, drop, length, sym, ap, ◌∙◌, arith, rules}
use Rattle.std.proofs.Math.Seq.{take-add}
use Rattle.std.proofs.lemmas.List.{take-take, take_all, take-append-drop, length-drop}
use Rattle.std.proofs.lemmas.List.Sums.{fold_more, fold-append}
use Rattle.meta_file.specs.Tables.{after, byte_step}
use Rattle.meta_file.proofs.CrcLemmas.{table_step, first_row}
use Rattle.meta_file.proofs.crc.Tables.update.Goals as goal

pub loop-at-preserved : goal.loop-at-preserved
loop-at-preserved c =
    let poly = c.args.self.now.poly in
    let bytes = c.args.bytes.now in
    let at = c.loop-at.at in
    let rest = drop at bytes in
    let first : take 8 (take (length bytes - at) rest) ≡ take 8 rest = take-take 8 (length bytes - at) rest (omega arith) in (
      omega arith,
      c.eight_bytes-state.ensures ∙ ap (after poly c.loop-at.state) first
          ∙ ap (λ s. after poly s (take 8 rest)) c.loop-at.invariant.1
          ∙ sym (ap (after poly c.args.state) (take-add at 8 bytes)
          ∙ fold-append (byte_step poly) c.args.state (take at bytes) (take 8 rest)),
    )

pub loop-byte-preserved : goal.loop-byte-preserved
loop-byte-preserved c =
    let poly = c.args.self.now.poly in
    let bytes = c.args.bytes.now in
    let items = take (length bytes - c.loop-at.at) (drop c.loop-at.at bytes) in
    let i = c.loop-byte.byte-index in
    let byte = get_or items i 0 in
    let small : byte < 256 = search rules in
    let is_byte : c.from.result ≡ byte = search rules in
    rw is_byte
    (table_step poly c.loop-byte.state byte c.args.self.now.entries (first_row poly c.args.self.now.entries c.args.self.now.filled) small
    ∙ ap (λ s. byte_step poly s byte) c.loop-byte.invariant
    ∙ sym (fold_more (byte_step poly) c.loop-at.state items i 0 c.loop-byte-test.true))

pub returns : goal.returns
returns c =
    let poly = c.args.self.now.poly in
    let bytes = c.args.bytes.now in
    let at = c.loop-at.at in
    let rest = drop at bytes in
    let items = take (length bytes - at) rest in
    let all : items ≡ rest = take_all (length bytes - at) rest (omega (arith, length-drop at bytes)) in
    let whole : take c.loop-byte.byte-index items ≡ items = take_all c.loop-byte.byte-index items (omega arith) in
    c.loop-byte.invariant ∙ ap (after poly c.loop-at.state) (whole ∙ all)
    ∙ ap (λ s. after poly s rest) c.loop-at.invariant.1
    ∙ sym (fold-append (byte_step poly) c.args.state (take at bytes) rest)
    ∙ ap (after poly c.args.state) (take-append-drop at bytes)
