use Rattle.std.proofs.Common.{take}
use Rattle.scp_ballot_rules.specs.scp_quorum.specs.NodeSet.{is_in}
use Rattle.scp_stand_needs.specs.Needs.{AreThese}
use Rattle.scp_stand_needs.proofs.steps.set_of.Given as goal

-- those so far
abbrev pub invariant-loop-node : goal.invariant-loop-node
invariant-loop-node l = AreThese (take l.node-index l.nodes) (is_in l.set)
