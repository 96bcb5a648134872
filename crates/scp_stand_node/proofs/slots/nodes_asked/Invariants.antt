use Rattle.std.proofs.Common.{◌≡◌}
use Rattle.scp_turn.specs.scp_ledger.specs.Seen.{is_asked}
use Rattle.scp_stand_node.specs.Links.{peers_with}
use Rattle.scp_stand_node.proofs.slots.nodes_asked.Given as goal

abbrev pub invariant-loop-link : goal.invariant-loop-link
invariant-loop-link l = l.nodes.items ≡ peers_with l.node.config (λ link. is_asked l.node.ledger.asked (record { link = link; slot = record { 0 = l.slot } })) l.link
