use Rattle.std.proofs.Common.{◌≡◌, ◌++◌, drop}
use Rattle.scp_line.specs.Left.{links_left}
use Rattle.scp_line.proofs.left.links_of.Given as goal

-- with what is left it is all
abbrev pub invariant-loop-peer : goal.invariant-loop-peer
invariant-loop-peer l = record {
  at : l.link ≡ l.peer-index;
  so_far : l.links.items ++ links_left l.lost l.link (drop l.peer-index l.peers) ≡ links_left l.lost 0 l.peers;
}
