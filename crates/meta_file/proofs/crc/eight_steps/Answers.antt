use Rattle.std.proofs.Common.{sym, ap, ◌∙◌, refl}
use Rattle.meta_file.specs.Tables.{bit_step, bit_steps}
use Rattle.meta_file.proofs.CrcLemmas.{bit_steps-more}
use Rattle.meta_file.proofs.crc.eight_steps.Goals as goal

pub loop-bit-init : goal.loop-bit-init
unfolding bit_steps
loop-bit-init c = refl

pub loop-bit-preserved : goal.loop-bit-preserved
loop-bit-preserved c =
    c.bit_step-state.ensures ∙ ap (bit_step c.args.poly) c.loop-bit.invariant
    ∙ sym (bit_steps-more c.args.poly c.loop-bit.bit c.args.x)
