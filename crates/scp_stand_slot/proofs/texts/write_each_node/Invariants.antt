use Rattle.std.proofs.Common.{◌≡◌, ◌++◌, drop, true, map, string_bytes}
use Rattle.scp_text.specs.Pieces.{listed}
use Rattle.scp_stand_slot.specs.Names.{node_name}
use Rattle.scp_stand_slot.proofs.texts.write_each_node.Given as goal

-- with what is left it is all
abbrev pub invariant-loop-node : goal.invariant-loop-node
invariant-loop-node l = string_bytes l.out ++ listed 44 l.first (map (node_name l.names) (drop l.node-index l.nodes)) ≡ string_bytes l.initial.out ++ listed 44 true (map (node_name l.names) l.nodes)
