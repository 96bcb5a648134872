use Rattle.std.proofs.Common.{ℕ}
use Rattle.scp_turn.specs.scp_ledger.specs.Seen.{is_asked}
use Rattle.scp_stand_node.proofs.Telling.{peer_more}
use Rattle.scp_stand_node.proofs.slots.nodes_asked.Goals as goal

pub loop-link-preserved : goal.loop-link-preserved
loop-link-preserved c = peer_more c.args.node.now.config (λ (link : ℕ). is_asked c.args.node.now.ledger.asked (record { link = link; slot = record { 0 = c.args.slot } })) c.loop-link.link c.is_asked_of-is_asked.result c.peer_of.result c.loop-link.nodes.items c.add_if.new.nodes.items c.is_asked_of-is_asked.ensures c.peer_of.ensures c.loop-link.invariant c.in_ok-add_if.ensures.added
