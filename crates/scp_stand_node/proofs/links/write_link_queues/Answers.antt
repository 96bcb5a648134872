use Rattle.std.proofs.Common.{string_bytes}
use Rattle.scp_stand_node.specs.Links.{queued_on}
use Rattle.scp_stand_node.proofs.Telling.{link_more}
use Rattle.scp_stand_node.proofs.links.write_link_queues.Goals as goal

pub loop-link-preserved : goal.loop-link-preserved
loop-link-preserved c = link_more (queued_on c.args.names.now c.args.node.now) c.loop-link.link (string_bytes c.args.out.now) (string_bytes c.loop-link.out) (string_bytes c.write_link_queue.new.out) c.loop-link.invariant c.in_ok-write_link_queue.ensures.added
