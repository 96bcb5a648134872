use Rattle.std.proofs.Common.{◌≡◌, ◌+◌, ◌++◌, drop}
use Rattle.scp_history.specs.Records.{unread_lines}
use Rattle.scp_history.proofs.records.add_unread_lines.Given as goal

-- with those of what is left they are all
abbrev pub invariant-loop-at : goal.invariant-loop-at
invariant-loop-at l = l.lines.items ++ unread_lines l.file (l.at + 1) (drop l.at l.records) ≡ l.fn.lines.items ++ unread_lines l.file 1 l.records
