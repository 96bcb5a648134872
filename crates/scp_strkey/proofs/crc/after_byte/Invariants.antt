use Rattle.std.proofs.Common.{◌≡◌}
use Rattle.scp_strkey.specs.Crc.{crc_bits}
use Rattle.scp_strkey.proofs.crc.after_byte.Given as goal

abbrev pub invariant-loop-bit : goal.invariant-loop-bit
invariant-loop-bit l = l.crc ≡ crc_bits l._bit l.initial.crc
