use Rattle.std.specs.Prelude.{◌≡◌, ◌++◌}
use Rattle.scp_again.specs.Again.{decided_again, slots_again}
use Rattle.scp_again.proofs.again.messages_again.Given as goal

-- what is added of the decisions, and of the slots so far
abbrev pub invariant-loop-ahead : goal.invariant-loop-ahead
invariant-loop-ahead g l = l.out.items ≡ decided_again l.ledger.decisions ++ slots_again l.ledger l.link l.ahead
