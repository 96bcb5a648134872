use Rattle.scp_turn.proofs.Linking.{others_found, others_front, others_back}
use Rattle.scp_turn.proofs.linked.has_others.Goals as goal

pub returns-then-are_ids : goal.returns-then-are_ids
returns-then-are_ids c =
    let nodes = c.args.nodes.now in
    let kept = c.index-nodes-place.result in
    let peers = c.peers-peers.result.now in
    let front = c.split_at.result.0.now in
    let back = c.split_at.result.1.now in (
      λ yes node at. others_found nodes c.args.place node kept peers front back at c.index-nodes-place.is c.peers-peers.ensures c.split_at.ensures.front c.split_at.ensures.back (c.are_ids.ensures.0 c.if-are_ids.true) (c.are_ids-then-are_ids.ensures.0 yes),
      λ others. c.are_ids-then-are_ids.ensures.1 (others_back nodes c.args.place kept peers back c.requires.place c.index-nodes-place.is c.peers-peers.ensures c.split_at.ensures.back others),
    )

pub returns-else-are_ids : goal.returns-else-are_ids
returns-else-are_ids c =
    let nodes = c.args.nodes.now in (
      λ yes node at. absurd (cc (yes, c.if-are_ids.false)),
      λ others. c.are_ids.ensures.1 (others_front nodes c.args.place c.index-nodes-place.result c.peers-peers.result.now c.split_at.result.0.now c.requires.place c.index-nodes-place.is c.peers-peers.ensures c.split_at.ensures.front others),
    )
