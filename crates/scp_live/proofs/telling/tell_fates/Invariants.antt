use Rattle.std.proofs.Common.{◌≡◌, ◌++◌, drop, string_bytes, flat_map}
use Rattle.std.specs.Prelude.{map}
use Rattle.scp_live_lines.specs.Fates.{fate_line}
use Rattle.scp_live.proofs.telling.tell_fates.Given as goal

-- with what is left it is all
abbrev pub invariant-loop-fate : goal.invariant-loop-fate
invariant-loop-fate l = string_bytes l.text ++ flat_map (fate_line (map string_bytes l.names) l.peers) (drop l.fate-index l.fates) ≡ string_bytes l.initial.text ++ flat_map (fate_line (map string_bytes l.names) l.peers) l.fates
