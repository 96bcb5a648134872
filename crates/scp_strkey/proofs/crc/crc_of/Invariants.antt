use Rattle.std.proofs.Common.{◌≡◌, fold, take}
use Rattle.scp_strkey.specs.Crc.{crc_byte}
use Rattle.scp_strkey.proofs.crc.crc_of.Given as goal

abbrev pub invariant-loop-byte : goal.invariant-loop-byte
invariant-loop-byte l = l.sum ≡ fold crc_byte 0 (take l.byte-index l.bytes)
