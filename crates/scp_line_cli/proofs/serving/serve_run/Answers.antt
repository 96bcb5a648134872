use Rattle.scp_line_cli.proofs.Told.{told_after, unplayed}
use Rattle.scp_line_cli.proofs.serving.serve_run.Goals as goal

pub returns-in-Err-clause-refused : goal.returns-in-Err-clause-refused
returns-in-Err-clause-refused g c = λ other.
    let e = c.in-Err.ensures in (
      c.in-Err.fault,
      c.tell.ensures.status,
      unplayed (g.R.ScriptIn.left c.args.reader.now) c.in-Err.fault e.cause e.named e.too_long e.line e.stops e.full,
      told_after g.W.ReportOut.written g.W.ReportOut.failures c.args.writer.now c.play.new.writer c.tell.new.writer c.in-Err.fault e.stopped c.tell.ensures.told,
    )
