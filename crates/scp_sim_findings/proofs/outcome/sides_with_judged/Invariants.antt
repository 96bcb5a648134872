use Rattle.std.proofs.Common.{◌≡◌, ◌+◌, ◌≤◌, drop, filter, length}
use Rattle.scp_sim_findings.specs.Outcome.{has_judged}
use Rattle.scp_sim_findings.proofs.outcome.sides_with_judged.Given as goal

-- with those of what is left they are all
abbrev pub invariant-loop-side : goal.invariant-loop-side
invariant-loop-side l = record {
  within : l.count ≤ l.side-index;
  all : l.count + length (filter (has_judged l.marks) (drop l.side-index l.sides)) ≡ length (filter (has_judged l.marks) l.sides);
}
