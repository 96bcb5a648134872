use Rattle.std.proofs.Common.{length}
use Rattle.scp_threaded_script.proofs.running.+end_nodes.Given as goal

abbrev pub decreases-end_nodes : goal.decreases-end_nodes
decreases-end_nodes g l = length l.nodes.items
