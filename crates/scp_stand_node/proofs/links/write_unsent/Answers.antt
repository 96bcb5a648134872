use Rattle.std.proofs.Common.{string_bytes}
use Rattle.scp_stand_node.specs.Links.{script_of, unsent_text}
use Rattle.scp_stand_node.proofs.Telling.{link_more}
use Rattle.scp_stand_node.proofs.links.write_unsent.Goals as goal

pub loop-link-preserved : goal.loop-link-preserved
loop-link-preserved c = link_more (unsent_text c.args.names.now (script_of c.args.lines) c.args.node.now) c.loop-link.link (string_bytes c.args.out.now) (string_bytes c.loop-link.out) (string_bytes c.write_unsent_to.new.out) c.loop-link.invariant c.in_ok-write_unsent_to.ensures.added
