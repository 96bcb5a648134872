use Rattle.std.proofs.Common.{◌≡◌, ◌++◌, drop}
use Rattle.scp_report.specs.Waiting.{parked_behind}
use Rattle.scp_report.proofs.waiting.parked_at.Given as goal

-- with what is left it is all
abbrev pub invariant-loop-peer : goal.invariant-loop-peer
invariant-loop-peer l = record {
  at : l.link ≡ l.peer-index;
  so_far : l.parked.items ++ parked_behind l.node l.link (drop l.peer-index l.peers) ≡ parked_behind l.node 0 l.peers;
}
