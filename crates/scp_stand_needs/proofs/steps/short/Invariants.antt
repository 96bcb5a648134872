use Rattle.std.proofs.Common.{take}
use Rattle.scp_ballot_rules.specs.scp_vote.specs.Board.{kind_of}
use Rattle.scp_ballot_rules.specs.scp_vote.specs.Seen.{seen}
use Rattle.scp_stand_needs.specs.Needs.{IsShort, AreMembers}
use Rattle.scp_stand_needs.proofs.steps.short.Given as goal

-- of the counted so far
abbrev pub invariant-loop-node : goal.invariant-loop-node
invariant-loop-node l = AreMembers (IsShort (seen (kind_of l.claim) l.board) l.counted) (take l.node-index l.counted) l.nodes.items
