use Rattle.std.proofs.Common.{◌≡◌, ◌++◌, drop, string_bytes, flat_map}
use Rattle.std.specs.Prelude.{map}
use Rattle.scp_live_lines.specs.Decisions.{decided_line}
use Rattle.scp_live.proofs.telling.tell_decided.Given as goal

-- with what is left it is all
abbrev pub invariant-loop-decision : goal.invariant-loop-decision
invariant-loop-decision l = string_bytes l.text ++ flat_map (decided_line (map string_bytes l.names) l.peers) (drop l.decision-index l.decisions) ≡ string_bytes l.initial.text ++ flat_map (decided_line (map string_bytes l.names) l.peers) l.decisions
