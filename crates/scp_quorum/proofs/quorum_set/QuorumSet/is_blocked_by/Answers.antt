use Rattle.scp_quorum.proofs.Blocking.{blocks_iff_not}
use Rattle.scp_quorum.proofs.quorum_set.QuorumSet.is_blocked_by.Goals as goal

pub returns : goal.returns
returns g c = blocks_iff_not _ (g.N.Nodes.members c.args.nodes.now) c.args.self.now c.is_satisfied_by.ensures
