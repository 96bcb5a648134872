use Rattle.std.proofs.Common.{◌≡◌, ◌++◌, drop, string_bytes, flat_map}
use Rattle.scp_live_lines.specs.Decisions.{applied_line}
use Rattle.scp_live.proofs.telling.tell_applied.Given as goal

-- with what is left it is all
abbrev pub invariant-loop-decision : goal.invariant-loop-decision
invariant-loop-decision l = string_bytes l.text ++ flat_map applied_line (drop l.decision-index l.applied) ≡ string_bytes l.initial.text ++ flat_map applied_line l.applied
