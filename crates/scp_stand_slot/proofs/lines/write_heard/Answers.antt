use Rattle.std.proofs.Common.{refl, arith, string_bytes}
use Rattle.std.specs.Prelude.{codes}
use Rattle.scp_stand_slot.specs.Machine.{lines_of}
use Rattle.scp_stand_slot.proofs.Listing.{text_more}
use Rattle.scp_stand_slot.proofs.lines.write_heard.Goals as goal

pub loop-node-preserved : goal.loop-node-preserved
loop-node-preserved c =
    text_more (lines_of c.args.names.now c.args.me c.args.slot (codes "heard") c.args.nominations.now c.args.ballots.now) c.args.nodes.now c.loop-node.node-index _ _ (string_bytes c.loop-node.out) (string_bytes c.write_node.new.out) _ (omega arith) refl c.in_ok-write_node.ensures.added c.loop-node.invariant
