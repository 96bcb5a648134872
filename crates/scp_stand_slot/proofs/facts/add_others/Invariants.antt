use Rattle.std.proofs.Common.{◌≡◌, ◌↔◌, ◌⊎◌, true, false, take, Contains}
use Rattle.scp_slot.specs.scp_types.specs.declared.names.NodeId.{NodeId}
use Rattle.scp_slot.specs.scp_quorum.specs.NodeSet.{is_in}
use Rattle.scp_script.specs.scp_wire.specs.Connections.{same_node}
use Rattle.scp_stand_slot.proofs.facts.add_others.Given as goal

-- of the nodes so far
abbrev pub invariant-loop-node : goal.invariant-loop-node
invariant-loop-node l = (v : NodeId) → (is_in l.others v ≡ true) ↔ ((is_in l.initial.others v ≡ true) ⊎ (Contains (take l.node-index l.nodes) v × (same_node v l.me ≡ false)))
