use Rattle.std.proofs.Common.{◌≡◌, ◌++◌, drop, map}
use Rattle.scp_live_head.specs.Head.{said_lines}
use Rattle.scp_live_head.proofs.head.add_statements.Given as goal

-- with what is left it is all
abbrev pub invariant-loop-statement : goal.invariant-loop-statement
invariant-loop-statement l = l.bytes.items ++ said_lines (map (λ b. b.items) (drop l.statement-index l.said)) ≡ l.fn.bytes.items ++ said_lines (map (λ b. b.items) l.said)
