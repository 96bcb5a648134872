use Rattle.std.proofs.Common.{length}
use Rattle.scp_core.proofs.handing.+hand_out_rest.Given as goal

abbrev pub decreases-hand_out_rest : goal.decreases-hand_out_rest
decreases-hand_out_rest l = length l.outgoing.items
