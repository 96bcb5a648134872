use Rattle.std.proofs.Common.{ℕ, false}
use Rattle.std.specs.Prelude.{slice_index_or}
use Rattle.scp_stand_node.proofs.Telling.{peer_more}
use Rattle.scp_stand_node.proofs.holding.nodes_asked.Goals as goal

pub loop-link-preserved : goal.loop-link-preserved
loop-link-preserved c = peer_more c.args.node.now.config (λ (link : ℕ). slice_index_or c.args.want.now.asked link false) c.loop-link.link c.is_asked_for-is_asked.result c.peer_of.result c.loop-link.nodes.items c.add_if.new.nodes.items c.is_asked_for-is_asked.ensures c.peer_of.ensures c.loop-link.invariant c.in_ok-add_if.ensures.added
