use Rattle.std.proofs.Common.{◌≡◌, ◌+◌, ◌++◌, drop}
use Rattle.scp_history.specs.Records.{message_lines}
use Rattle.scp_history.proofs.messages.add_lines.Given as goal

-- with those of what is left they are all
abbrev pub invariant-loop-at : goal.invariant-loop-at
invariant-loop-at l = l.lines.items ++ message_lines l.ledger l.file (l.at + 1) (drop l.at l.messages) ≡ l.fn.lines.items ++ message_lines l.ledger l.file 1 l.messages
