use Rattle.std.proofs.Common.{◌≡◌, ◌++◌, drop, string_bytes, flat_map}
use Rattle.std.specs.Prelude.{map}
use Rattle.scp_live.specs.Live.{sent_line}
use Rattle.scp_live.proofs.telling.tell_sent.Given as goal

-- with what is left it is all
abbrev pub invariant-loop-sending : goal.invariant-loop-sending
invariant-loop-sending l = string_bytes l.text ++ flat_map (sent_line (map string_bytes l.names)) (drop l.sending-index l.sent) ≡ string_bytes l.initial.text ++ flat_map (sent_line (map string_bytes l.names)) l.sent
