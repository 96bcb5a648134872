use Rattle.std.proofs.Common.{◌≡◌, ◌+◌, ◌++◌, drop, map}
use Rattle.scp_notices.specs.Disagreeing.{choices_from}
use Rattle.scp_notices.specs.inside.Choices.{choice_seen}
use Rattle.scp_notices.specs.inside.Seen.{applied_in}
use Rattle.scp_notices.proofs.disagreeing.choices.Given as goal

-- with what is left it is all
abbrev pub invariant-loop-report : goal.invariant-loop-report
invariant-loop-report l = record {
  at : l.number ≡ l.report-index + 1;
  all : map choice_seen l.choices.items ++ choices_from l.slot l.number (map applied_in (drop l.report-index l.reports)) ≡ choices_from l.slot 1 (map applied_in l.reports);
}
