use Rattle.std.proofs.Common.{◌≡◌, drop}
use Rattle.scp_quorum_files.specs.Naming.{node_named}
use Rattle.scp_quorum_files.proofs.naming.node_named.Given as goal

-- what is left shows it
abbrev pub invariant-loop-node : goal.invariant-loop-node
invariant-loop-node l = node_named (drop l.node-index l.nodes) l.name ≡ node_named l.nodes l.name
