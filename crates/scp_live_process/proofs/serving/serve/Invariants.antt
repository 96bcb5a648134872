use Rattle.std.proofs.Common.{◌≡◌}
use Rattle.scp_stand_node.specs.scp_turn.specs.Watch.{notes}
use Rattle.scp_live.specs.Living.{IsLive}
use Rattle.scp_live_process.proofs.Going.{Seen}
use Rattle.scp_live_process.proofs.Served.{Serving}
use Rattle.scp_live_process.proofs.serving.serve.Given as goal

-- what was read so far is served, and nothing failed
abbrev pub invariant-loop : goal.invariant-loop
invariant-loop g l = record {
  served : Seen (notes g.V.Watch.notes_before g.V.Watch.notes_after) l.fn.watch l.watch l.fn.live.node l.live.node (λ heard. Serving g.L.EventLog.holds g.L.EventLog.may_leave (g.R.ScriptIn.left l.fn.reader) (g.R.ScriptIn.left l.reader) (g.W.ReportOut.written l.fn.writer) (g.W.ReportOut.written l.writer) l.fn.kept l.kept l.lines l.number l.fn.live heard l.live);
  live : IsLive l.live.node;
  reads : g.R.ScriptIn.failures l.reader ≡ g.R.ScriptIn.failures l.fn.reader;
  writes : g.W.ReportOut.failures l.writer ≡ g.W.ReportOut.failures l.fn.writer;
  keeps : g.L.EventLog.faults l.kept.log ≡ g.L.EventLog.faults l.fn.kept.log;
}
