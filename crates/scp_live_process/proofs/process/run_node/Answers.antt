use Rattle.std.proofs.Common.{refl, inl, inr}
use Rattle.scp_live_process.specs.Ending.{streams}
use Rattle.scp_live_process.proofs.Ended.{told_so}
use Rattle.scp_live_process.proofs.process.run_node.Goals as goal

pub returns-in-Err-clause-stopped : goal.returns-in-Err-clause-stopped
returns-in-Err-clause-stopped g c other = inl (record { fault = c.in-Err.fault; why = c.in-Err.ensures.refused; told = told_so _ _ _ (streams (g.R.ScriptIn.left c.args.reader.now) (g.R.ScriptIn.failures c.args.reader.now) (g.W.ReportOut.written c.args.writer.now) (g.W.ReportOut.failures c.args.writer.now)) (streams (g.R.ScriptIn.left c.args.reader.now) (g.R.ScriptIn.failures c.args.reader.now) (g.W.ReportOut.written c.refuse.new.writer) (g.W.ReportOut.failures c.refuse.new.writer)) _ refl c.refuse.ensures.told })

pub returns-clause-stopped : goal.returns-clause-stopped
returns-clause-stopped g c other =
    inr (c.in-Ok.settings, c.in-Ok.ensures.read, record { fault = c.in-Err-run_settings.fault; stopped = (streams (g.R.ScriptIn.left c.run_settings.new.reader) (g.R.ScriptIn.failures c.run_settings.new.reader) (g.W.ReportOut.written c.run_settings.new.writer) (g.W.ReportOut.failures c.run_settings.new.writer)); stops = c.in-Err-run_settings.ensures.stopped; told = (refl, c.fail.ensures.told) })
