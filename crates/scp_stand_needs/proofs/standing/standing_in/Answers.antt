use Rattle.std.proofs.Common.{◌≡◌, [], List, refl, sym, subst, arith}
use Rattle.scp_kv.specs.scp_types.specs.declared.names.NodeId.{NodeId}
use Rattle.scp_ballot_rules.specs.scp_vote.specs.Board.{Has}
use Rattle.scp_ballot_rules.specs.scp_vote.specs.Claims.{Stands}
use Rattle.scp_ballot_rules.specs.scp_vote.specs.Seen.{seen}
use Rattle.scp_stand_needs.specs.Needs.{AreMembers}
use Rattle.scp_stand_needs.proofs.Members.{members_none, members_at, members_all, all_standing}
use Rattle.scp_stand_needs.proofs.standing.standing_in.Goals as goal

pub loop-node-init : goal.loop-node-init
loop-node-init c =
    let P = Has (seen c.args.kind c.args.board.now) (Stands c.args.support c.args.claim.now) in
    subst (λ (nodes : List NodeId). AreMembers P [] nodes) (sym c.new-nodes.ensures.items) (members_none P)

pub loop-node-preserved : goal.loop-node-preserved
loop-node-preserved c =
    members_at (Has (seen c.args.kind c.args.board.now) (Stands c.args.support c.args.claim.now)) c.as_slice-node-items.result.now c.loop-node.nodes.items c.add_if.new.nodes.items c.loop-node.node-index _ _ c.is_standing.result (omega arith) refl
    c.is_standing.ensures
    c.in_ok-add_if.ensures
    c.loop-node.invariant

pub returns : goal.returns
returns c =
    let P = Has (seen c.args.kind c.args.board.now) (Stands c.args.support c.args.claim.now) in
    let speakers = c.in_ok-speakers.speakers.items in
    let all : AreMembers P speakers c.loop-node.nodes.items =
    subst (λ (nodes : List NodeId). AreMembers P nodes c.loop-node.nodes.items) c.as_slice-node-items.ensures.value (members_all P c.as_slice-node-items.result.now c.loop-node.nodes.items c.loop-node.node-index c.loop-node-test.false c.loop-node.invariant)
    in
    all_standing (seen c.args.kind c.args.board.now) c.args.support c.args.claim.now speakers c.loop-node.nodes.items c.in_ok-speakers.ensures.these c.in_ok-speakers.ensures.ascending all
