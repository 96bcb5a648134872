use Rattle.std.proofs.Common.{◌≡◌, drop, fold, length, map}
use Rattle.std.specs.Prelude.{max}
use Rattle.scp_notices.specs.Disagreeing.{most_applied}
use Rattle.scp_notices.specs.inside.Seen.{applied_in}
use Rattle.scp_notices.proofs.disagreeing.most.Given as goal

-- what is left leads to all
abbrev pub invariant-loop-report : goal.invariant-loop-report
invariant-loop-report l = fold (λ most applied. max most (length applied)) l.most (map applied_in (drop l.report-index l.reports)) ≡ most_applied (map applied_in l.reports)
