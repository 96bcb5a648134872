use Rattle.std.proofs.Common.{length}
use Rattle.scp_core.proofs.config.+are_peers_apart.Given as goal

abbrev pub decreases-are_peers_apart : goal.decreases-are_peers_apart
decreases-are_peers_apart l = length l.peers.now
