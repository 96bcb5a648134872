use Rattle.std.proofs.Common.{◌≡◌, ◌++◌}
use Rattle.scp_ledger.proofs.quorum.Quorum.nodes.Given as goal

-- with what is left they are all
abbrev pub invariant-loop-node : goal.invariant-loop-node
invariant-loop-node l = l.nodes.items ++ l.node-iterator ≡ l.self
