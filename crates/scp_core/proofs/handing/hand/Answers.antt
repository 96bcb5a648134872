use Rattle.scp_core.proofs.Putting.{hands_to}
use Rattle.scp_core.proofs.handing.hand.Goals as goal

pub returns : goal.returns
returns c = rw (← c.of.ensures.same) (hands_to c.args.outboxes.now _ c.args.link c.of.result c.put.ensures.puts)
