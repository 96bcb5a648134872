use Rattle.std.proofs.Common.{◌≡◌, ◌++◌, drop, string_bytes}
use Rattle.scp_live_config.specs.Texts.{shown}
use Rattle.scp_live_config.proofs.text.write_bytes.Given as goal

-- with what is left it is all
abbrev pub invariant-loop-byte : goal.invariant-loop-byte
invariant-loop-byte l = string_bytes l.out ++ shown (drop l.byte-index l.bytes) ≡ string_bytes l.fn.out ++ shown l.bytes
