use Rattle.std.proofs.Common.{◌≡◌, ◌++◌, string_bytes}
use Rattle.scp_script_hints.specs.Told.{nodes_text}
use Rattle.scp_script_hints.proofs.QuorumTexts.{remaining}
use Rattle.scp_script_hints.proofs.told.write_nodes.Given as goal

abbrev pub invariant-loop-node : goal.invariant-loop-node
invariant-loop-node l = string_bytes l.out ++ remaining l.first l.node-iterator ≡ string_bytes l.initial.out ++ nodes_text l.nodes.keys
