use Rattle.std.specs.Prelude.{map}
use Rattle.scp_notices.specs.Lost.{lost_on}
use Rattle.scp_notices.specs.inside.Seen.{lost_in}
use Rattle.scp_notices.proofs.Counting.{added_more}
use Rattle.scp_notices.proofs.lost.add_node.Goals as goal

pub loop-index-preserved : goal.loop-index-preserved
loop-index-preserved c = added_more (lost_on c.args.commands.now (map lost_in c.args.reports.now) c.args.node) c.loop-index.index c.args.out.now.items c.loop-index.out.items c.add_link.new.out.items c.loop-index.invariant c.in_ok-add_link.ensures
