use Rattle.std.proofs.Common.{◌≡◌, ◌↔◌, true}
use Rattle.scp_slot.specs.scp_types.specs.declared.names.NodeId.{NodeId}
use Rattle.scp_slot.specs.scp_quorum.specs.NodeSet.{is_in}
use Rattle.scp_slot.specs.scp_driver.specs.Kv.{leader_place}
use Rattle.scp_slot.specs.scp_nominate.specs.Turns.{Leads}
use Rattle.scp_stand_slot.proofs.facts.set_of_leaders.Given as goal

-- of the rounds so far
abbrev pub invariant-loop-index : goal.invariant-loop-index
invariant-loop-index l = (v : NodeId) → (is_in l.leaders v ≡ true) ↔ Leads (leader_place l.slot.0) l.members l.index v
