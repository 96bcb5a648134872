use Rattle.std.proofs.Common.{◌≡◌, ◌++◌, length, string_bytes}
use Rattle.scp_strkey.specs.Base32.{base32}
use Rattle.scp_strkey.proofs.base32.write_base32.Given as goal

-- with what is left it is all
abbrev pub invariant-loop-rest : goal.invariant-loop-rest
invariant-loop-rest l = string_bytes l.text ++ base32 l.rest ≡ string_bytes l.fn.text ++ base32 l.fn.bytes

abbrev pub decreases-loop-rest : goal.decreases-loop-rest
decreases-loop-rest l = length l.rest
