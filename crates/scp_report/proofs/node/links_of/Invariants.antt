use Rattle.std.proofs.Common.{◌≡◌, ◌++◌, drop}
use Rattle.scp_report.specs.Node.{links_behind}
use Rattle.scp_report.proofs.node.links_of.Given as goal

-- with what is left it is all
abbrev pub invariant-loop-peer : goal.invariant-loop-peer
invariant-loop-peer l = record {
  at : l.link ≡ l.peer-index;
  so_far : l.links.items ++ links_behind l.node.outboxes l.link (drop l.peer-index l.peers) ≡ links_behind l.node.outboxes 0 l.peers;
}
