use Rattle.std.proofs.Common.{take}
use Rattle.scp_ballot_rules.specs.scp_vote.specs.Board.{Has}
use Rattle.scp_ballot_rules.specs.scp_vote.specs.Claims.{Stands}
use Rattle.scp_ballot_rules.specs.scp_vote.specs.Seen.{seen}
use Rattle.scp_stand_needs.specs.Needs.{AreMembers}
use Rattle.scp_stand_needs.proofs.standing.standing_in.Given as goal

-- of those that spoke, so far
abbrev pub invariant-loop-node : goal.invariant-loop-node
invariant-loop-node l = AreMembers (Has (seen l.fn.kind l.board) (Stands l.support l.claim)) (take l.node-index l.node-items) l.nodes.items
