use Rattle.std.proofs.Common.{◌≡◌, ◌+◌, ◌++◌, drop}
use Rattle.scp_ledgers.specs.Report.{record_lines}
use Rattle.scp_ledgers.proofs.report.add_records.Given as goal

-- with those of what is left they are all
abbrev pub invariant-loop-at : goal.invariant-loop-at
invariant-loop-at l = l.lines.items ++ record_lines (l.at + 1) (drop l.at l.archives) ≡ l.fn.lines.items ++ record_lines 1 l.archives
