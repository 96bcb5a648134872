use Rattle.std.proofs.Common.{◌≡◌, drop}
use Rattle.std.specs.List.{list_any}
use Rattle.scp_sim_findings.specs.Outcome.{is_split}
use Rattle.scp_sim_findings.proofs.outcome.has_split.Given as goal

-- what is left tells it
abbrev pub invariant-loop-notice : goal.invariant-loop-notice
invariant-loop-notice l = list_any (is_split l.marks) (drop l.notice-index l.notices) ≡ list_any (is_split l.marks) l.notices
