use Rattle.std.proofs.Common.{◌≡◌, ◌<◌, ◌^◌, ℕ, get_or, sym, ap, ◌∙◌, rules}
use Rattle.std.specs.Prelude.{bit_xor}
use Rattle.std.proofs.lemmas.Nat.{xor_lt}
use Rattle.meta_file.specs.Tables.{bit_steps}
use Rattle.meta_file.proofs.CrcLemmas.{eight_rows, bytes_at_once}
use Rattle.meta_file.proofs.crc.Tables.eight_bytes.Goals as goal

pub returns : goal.returns
returns c =
    let poly = c.args.self.now.poly in
    let bytes = c.args.bytes.now in
    let state_is : c.from.result ≡ c.args.state = search rules in
    let small : c.from.result < 2 ^ 64 = search rules in
    let word_small : c.read_u64.result < 2 ^ 64 = search rules in
    let each : (k : ℕ) → get_or bytes k 0 < 256 = λ k. search rules in
    let word = bit_xor c.from.result c.read_u64.result in
    let fits : word < 2 ^ 64 = xor_lt 64 c.from.result c.read_u64.result small word_small in
    eight_rows poly word c.args.self.now.entries c.args.self.now.filled fits
    ∙ ap (λ s. bit_steps poly 64 (bit_xor s c.read_u64.result)) state_is
    ∙ ap (λ w. bit_steps poly 64 (bit_xor c.args.state w)) c.read_u64.ensures
    ∙ sym (bytes_at_once poly 8 0 c.args.state bytes c.requires each)
