use Rattle.std.proofs.Common.{◌≡◌, drop}
use Rattle.std.specs.List.{list_any}
use Rattle.scp_sim_findings.specs.Outcome.{is_judged}
use Rattle.scp_sim_findings.proofs.outcome.has_judged.Given as goal

-- what is left tells it
abbrev pub invariant-loop-number : goal.invariant-loop-number
invariant-loop-number l = list_any (is_judged l.marks) (drop l.number-index l.number-items) ≡ list_any (is_judged l.marks) l.side.nodes
