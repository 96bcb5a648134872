use Rattle.std.proofs.Common.{◌≡◌, ◌++◌, drop, string_bytes, flat_map}
use Rattle.scp_report.specs.Settled.{applied_line}
use Rattle.scp_report.proofs.settled.write_applied_list.Given as goal

-- with what is left it is all
abbrev pub invariant-loop-decision : goal.invariant-loop-decision
invariant-loop-decision l = string_bytes l.text ++ flat_map applied_line (drop l.decision-index l.applied) ≡ string_bytes l.initial.text ++ flat_map applied_line l.applied
