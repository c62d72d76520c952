use Rattle.std.proofs.Common.{rules, arith, subst, sym, ◌≡◌, length}
use Rattle.std.specs.Str.{IsAscii}
use Rattle.hex.specs.Hex.{lower_digits, encode_lower}
use Rattle.hex.proofs.HexLemmas.{IsAscii-encode_with}
use Rattle.plan_json.proofs.Digits.{IsAscii-lower_digits}
use Rattle.plan_json.proofs.id.plan_id.Goals as goal

pub invariant_of-result : goal.invariant_of-result
invariant_of-result c =
    let text = IsAscii-encode_with lower_digits c.digest-digest.result IsAscii-lower_digits in
    let len : length c.digest-digest.result ≡ 20 = omega arith in
    let written : c.encode_to_slice-written.new.output ≡ encode_lower c.digest-digest.result = search (rules, len) in
    subst IsAscii (sym written) text
