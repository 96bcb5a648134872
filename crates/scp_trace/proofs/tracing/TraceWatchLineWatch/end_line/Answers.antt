use Rattle.scp_trace.proofs.Watching.{line_ended}
use Rattle.scp_trace.proofs.tracing.TraceWatchLineWatch.end_line.Goals as goal

pub returns-in-Ok : goal.returns-in-Ok
returns-in-Ok c =
    line_ended c.args.self.now c.write_behind.new.self c.count_line.new.self c.args.line c.args.command.now c.args._calm c.args.nodes.now c.write_behind.ensures.same c.write_behind.ensures.fresh c.in-Ok.ensures.calm c.in-Ok.ensures.added c.count_line.ensures.same c.count_line.ensures.counted
