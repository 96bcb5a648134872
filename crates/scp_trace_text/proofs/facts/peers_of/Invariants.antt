use Rattle.std.proofs.Common.{◌≡◌, ◌++◌, map, drop}
use Rattle.scp_facts.specs.scp_core.specs.History.{peer_at}
use Rattle.scp_trace_text.proofs.facts.peers_of.Given as goal

-- with those of what is left they are all
abbrev pub invariant-loop-link : goal.invariant-loop-link
invariant-loop-link l = l.nodes.items ++ map (peer_at l.node.config) (drop l.link-index l.links) ≡ map (peer_at l.node.config) l.links
