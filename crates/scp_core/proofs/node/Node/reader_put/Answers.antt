use Rattle.std.proofs.Common.{◌∙◌, ap}
use Rattle.scp_core.specs.Node.{NodeView}
use Rattle.scp_core.specs.inside.Stops.{reply_of}
use Rattle.scp_core.proofs.Handlers.{put-refused}
use Rattle.scp_core.proofs.node.Node.reader_put.Goals as goal

pub returns-in-Err : goal.returns-in-Err
returns-in-Err g c = rw (← c.self.view_is, c.reply.ensures) (put-refused g.A.Driver.says _ c.args.link c.is_full.result (reply_of c.in-Err.stop) _ c.is_full.ensures.full (ap (λ (v : NodeView _). v.failed) c.self.view_is ∙ c.requires) c.in-Err.ensures)
