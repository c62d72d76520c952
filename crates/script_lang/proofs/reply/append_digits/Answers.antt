use Rattle.std.proofs.Common.{◌≡◌, ◌+◌, ◌*◌, ◌-◌, ◌++◌, ◌∷◌, [], length, take, append_assoc, ap, sym, ◌∙◌, arith}
use Rattle.std.proofs.Math.ListN.{replicate}
use Rattle.hex.specs.Hex.{encode_lower, lower_digits}
use Rattle.hex.proofs.HexLemmas.{length-encode_with}
use Rattle.script_lang.proofs.DataLine.{digits_written}
use Rattle.script_lang.proofs.reply.append_digits.Goals as goal

pub returns : goal.returns
returns c =
    let line = c.args.line.now in
    let room = c.resize.new.self in
    let digits = c.encode_to_slice.new.output in
    let start = c.len-start.result in
    let end = c.in_ok-end.end in
    let length_line : start ≡ length line.items = omega (arith, c.len-start.ensures, line.ok.0) in
    let count : length digits ≡ 2 * length c.args.bytes.now = ap length c.in-Ok.ensures.written ∙ length-encode_with lower_digits c.args.bytes.now in
    let told = rw c.in_ok-end.ensures.ok_part at c.digits_end.ensures in
    let end_is : end ≡ start + length digits = omega (arith, told.0, count) in
    let filled = c.in_ok-resize.ensures.items ∙ ap (λ n. take (end + 1) line.items ++ replicate (end + 1 - n) 10) (sym c.len-start.ensures) in
    digits_written line.items digits room.items c.deref_mut.result.now start end room.len length_line end_is c.in_ok-resize.ensures.len
    filled (omega (arith, room.ok.0)) c.deref_mut.ensures.value
    ∙ ap (λ d. line.items ++ (d ++ 10 ∷ [])) c.in-Ok.ensures.written
    ∙ sym (append_assoc line.items (encode_lower c.args.bytes.now) (10 ∷ []))
