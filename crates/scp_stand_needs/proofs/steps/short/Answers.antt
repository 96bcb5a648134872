use Rattle.std.proofs.Common.{refl, arith}
use Rattle.scp_ballot_rules.specs.scp_vote.specs.Board.{kind_of}
use Rattle.scp_ballot_rules.specs.scp_vote.specs.Seen.{seen}
use Rattle.scp_stand_needs.specs.Needs.{IsShort}
use Rattle.scp_stand_needs.proofs.Members.{members_at, members_all}
use Rattle.scp_stand_needs.proofs.steps.short.Goals as goal

pub loop-node-preserved : goal.loop-node-preserved
loop-node-preserved c =
    members_at (IsShort (seen (kind_of c.args.claim.now) c.args.board.now) c.args.counted.now) c.args.counted.now c.loop-node.nodes.items c.add_if.new.nodes.items c.loop-node.node-index _ _ c.is_short-is_one.result (omega arith) refl
    (rw c.kind.ensures at c.is_short-is_one.ensures)
    c.in_ok-add_if.ensures
    c.loop-node.invariant

pub returns : goal.returns
returns c = members_all (IsShort (seen (kind_of c.args.claim.now) c.args.board.now) c.args.counted.now) c.args.counted.now c.loop-node.nodes.items c.loop-node.node-index (omega arith) c.loop-node.invariant
