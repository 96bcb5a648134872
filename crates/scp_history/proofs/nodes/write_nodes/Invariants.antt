use Rattle.std.proofs.Common.{◌≡◌, ◌++◌, drop, flat_map, string_bytes}
use Rattle.scp_history.specs.Words.{behind_space}
use Rattle.scp_history.proofs.nodes.write_nodes.Given as goal

-- with what is left it is all
abbrev pub invariant-loop-node : goal.invariant-loop-node
invariant-loop-node l = string_bytes l.text ++ flat_map (behind_space l.by_number) (drop l.node-index l.nodes) ≡ string_bytes l.fn.text ++ flat_map (behind_space l.by_number) l.nodes
