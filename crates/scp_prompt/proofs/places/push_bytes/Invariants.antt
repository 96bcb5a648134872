use Rattle.std.proofs.Common.{◌≡◌, ◌++◌, string_bytes, flat_map, drop}
use Rattle.scp_prompt.specs.Places.{shown_byte}
use Rattle.scp_prompt.proofs.places.push_bytes.Given as goal

-- with those that are left all are written
abbrev pub invariant-loop-byte : goal.invariant-loop-byte
invariant-loop-byte l = string_bytes l.out ++ flat_map shown_byte (drop l.byte-index l.bytes) ≡ string_bytes l.initial.out ++ flat_map shown_byte l.bytes
