use Rattle.std.proofs.Common.{◌≤◌, ◌-◌, ◌*◌, ◌∙◌, ℕ, List, ap, arith, length, drop, length-drop}
use Rattle.std.proofs.lemmas.List.{take_all}
use Rattle.byteorder.specs.Endian.{big_number}
use Rattle.meta_file.proofs.HeaderLemmas.{big_endian-four}
use Rattle.meta_file.proofs.difference.sum_at.Goals as goal

pub returns : goal.returns
returns c =
    let sums = c.args.sums.now in
    let rest = drop (4 * c.args.place) sums in
    let few : length rest ≤ length sums - 4 * c.args.place = omega (arith, length-drop (4 * c.args.place) sums) in
    let four : 4 ≤ length rest = omega (arith, length-drop (4 * c.args.place) sums) in
    let all = take_all (length sums - 4 * c.args.place) rest few in
    c.read_u32.ensures ∙ ap (λ (bytes : List ℕ). big_number 4 bytes) all ∙ big_endian-four rest four
