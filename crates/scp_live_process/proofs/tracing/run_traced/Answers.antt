use Rattle.std.proofs.Common.{ℕ, refl, ap, sym, subst, inl, inr}
use Rattle.scp_stand_node.specs.scp_types.specs.declared.fault.Fault.TheVariants.{NoMemory}
use Rattle.scp_batches.specs.scp_live_log.specs.declared.kept.LogFault.TheVariants.{Failed}
use Rattle.scp_trace_text.specs.Watching.{TraceView}
use Rattle.scp_live_process.specs.Ending.{streams, EndsBy, StopsTraced}
use Rattle.scp_live_process.proofs.Ended.{told_so}
use Rattle.scp_live_process.proofs.Traced.{traced_run}
use Rattle.scp_live_process.proofs.tracing.run_traced.Goals as goal

pub returns-in-Err-clause-stopped : goal.returns-in-Err-clause-stopped
returns-in-Err-clause-stopped g c other = inl (record { fault = c.in-Err.fault; why = c.in-Err.ensures.refused; told = told_so _ _ _ (streams (g.R.ScriptIn.left c.args.reader.now) (g.R.ScriptIn.failures c.args.reader.now) (g.W.ReportOut.written c.args.writer.now) (g.W.ReportOut.failures c.args.writer.now)) (streams (g.R.ScriptIn.left c.args.reader.now) (g.R.ScriptIn.failures c.args.reader.now) (g.W.ReportOut.written c.refuse.new.writer) (g.W.ReportOut.failures c.refuse.new.writer)) _ refl c.refuse.ensures.told })

pub returns-in-Err-names_in-clause-stopped : goal.returns-in-Err-names_in-clause-stopped
returns-in-Err-names_in-clause-stopped g c other =
    inr (
      c.in-Ok.settings,
      c.in-Ok.ensures.read,
      record {
        fault = Failed NoMemory;
        stopped = (streams (g.R.ScriptIn.left c.args.reader.now) (g.R.ScriptIn.failures c.args.reader.now) (g.W.ReportOut.written c.args.writer.now) (g.W.ReportOut.failures c.args.writer.now));
        stops = inl (inl (record { same = refl; why = inl refl }));
        told = (refl, c.fail.ensures.told);
      },
    )

pub returns-clause-ran : goal.returns-clause-ran
returns-clause-ran g c zero =
    traced_run g.L.EventLog.holds g.L.EventLog.may_leave c.args.config.now c.in-Ok.settings _ _ _ c.args.log c.watch_of-watch.result c.run_status-status.new.watch (g.T.ReportOut.written c.args.trace) (g.T.ReportOut.written c.into_trace.result)
    c.in-Ok.ensures.read (ap (λ (w : TraceView). w.written) c.watch_of-watch.ensures) c.into_trace.ensures.written (c.run_status-status.ensures.ran zero)

pub returns-clause-stopped : goal.returns-clause-stopped
returns-clause-stopped g c other =
    let before = (streams (g.R.ScriptIn.left c.args.reader.now) (g.R.ScriptIn.failures c.args.reader.now) (g.W.ReportOut.written c.args.writer.now) (g.W.ReportOut.failures c.args.writer.now)) in
    let after' = (streams (g.R.ScriptIn.left c.run_status-status.new.reader) (g.R.ScriptIn.failures c.run_status-status.new.reader) (g.W.ReportOut.written c.run_status-status.new.writer) (g.W.ReportOut.failures c.run_status-status.new.writer)) in
    inr (c.in-Ok.settings, c.in-Ok.ensures.read, subst (λ (n : ℕ). EndsBy (λ stopped fault. StopsTraced g.L.EventLog.holds g.L.EventLog.may_leave g.L.EventLog.faults g.L.EventLog.moved c.args.wanted c.in-Ok.settings before stopped c.args.log n fault) after' c.run_status-status.result) (sym c.into_trace.ensures.failures) (c.run_status-status.ensures.stopped other))
