use Rattle.std.proofs.Common.{string_bytes}
use Rattle.scp_stand_node.specs.Holding.{life_text}
use Rattle.scp_stand_node.proofs.Telling.{text_more}
use Rattle.scp_stand_node.proofs.holding.write_held.Goals as goal

pub loop-index-preserved : goal.loop-index-preserved
loop-index-preserved c = text_more (life_text c.args.names.now c.args.node.now c.args.link) c.loop-index.index (string_bytes c.args.out.now) (string_bytes c.loop-index.out) (string_bytes c.write_life.new.out) c.loop-index.invariant c.in_ok-write_life.ensures.added
