use Rattle.std.proofs.Common.{take}
use Rattle.scp_ballot_rules.specs.scp_vote.specs.Board.{kind_of}
use Rattle.scp_ballot_rules.specs.scp_vote.specs.Seen.{seen}
use Rattle.scp_stand_needs.specs.Needs.{IsOpposed, AreMembers}
use Rattle.scp_stand_needs.proofs.steps.opposed.Given as goal

-- of the members so far
abbrev pub invariant-loop-node : goal.invariant-loop-node
invariant-loop-node l = AreMembers (IsOpposed (seen (kind_of l.claim) l.board) l.claim l.counted) (take l.node-index l.members) l.nodes.items
