use Rattle.std.proofs.Common.{◌≡◌, false}
use Rattle.std.specs.Prelude.{slice_index_or}
use Rattle.scp_stand_node.specs.Links.{peers_with}
use Rattle.scp_stand_node.proofs.holding.nodes_asked.Given as goal

abbrev pub invariant-loop-link : goal.invariant-loop-link
invariant-loop-link l = l.nodes.items ≡ peers_with l.node.config (λ link. slice_index_or l.want.asked link false) l.link
