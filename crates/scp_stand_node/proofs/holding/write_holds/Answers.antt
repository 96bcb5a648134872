use Rattle.std.proofs.Common.{string_bytes}
use Rattle.scp_stand_node.specs.Holding.{held_on}
use Rattle.scp_stand_node.proofs.Telling.{link_more}
use Rattle.scp_stand_node.proofs.holding.write_holds.Goals as goal

pub loop-link-preserved : goal.loop-link-preserved
loop-link-preserved c = link_more (held_on c.args.names.now c.args.node.now) c.loop-link.link (string_bytes c.args.out.now) (string_bytes c.loop-link.out) (string_bytes c.write_held.new.out) c.loop-link.invariant c.in_ok-write_held.ensures.added
