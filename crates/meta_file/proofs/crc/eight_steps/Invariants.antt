use Rattle.std.proofs.Common.{◌≡◌}
use Rattle.meta_file.specs.Tables.{bit_steps}
use Rattle.meta_file.proofs.crc.eight_steps.Given as goal

abbrev pub invariant-loop-bit : goal.invariant-loop-bit
invariant-loop-bit l = l.state ≡ bit_steps l.fn.poly l.bit l.fn.x
