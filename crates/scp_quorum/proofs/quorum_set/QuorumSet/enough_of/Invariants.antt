use Rattle.std.proofs.Common.{◌≡◌, ◌-◌, ◌+◌, count_by, take}
use Rattle.scp_quorum.proofs.quorum_set.QuorumSet.enough_of.Given as goal

abbrev pub invariant-loop-i : goal.invariant-loop-i
invariant-loop-i g l =
    l.wanted ≡ l.self.head.threshold - (0 + count_by (g.N.Nodes.members l.nodes) (take l.i l.validators))
