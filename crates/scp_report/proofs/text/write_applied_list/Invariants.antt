use Rattle.std.proofs.Common.{◌≡◌, ◌++◌, drop, string_bytes, flat_map}
use Rattle.scp_report.specs.Text.{applied_text_line}
use Rattle.scp_report.proofs.text.write_applied_list.Given as goal

-- with what is left it is all
abbrev pub invariant-loop-decision : goal.invariant-loop-decision
invariant-loop-decision l = string_bytes l.out ++ flat_map applied_text_line (drop l.decision-index l.applied) ≡ string_bytes l.initial.out ++ flat_map applied_text_line l.applied
