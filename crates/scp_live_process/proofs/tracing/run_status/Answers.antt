use Rattle.std.proofs.Common.{refl}
use Rattle.scp_live_process.specs.Ending.{streams}
use Rattle.scp_live_process.proofs.tracing.run_status.Goals as goal

pub returns-in-Err-clause-stopped : goal.returns-in-Err-clause-stopped
returns-in-Err-clause-stopped g c other = record { fault = c.in-Err.fault; stopped = (streams (g.R.ScriptIn.left c.run_told.new.reader) (g.R.ScriptIn.failures c.run_told.new.reader) (g.W.ReportOut.written c.run_told.new.writer) (g.W.ReportOut.failures c.run_told.new.writer)); stops = c.in-Err.ensures.stopped; told = (refl, c.fail.ensures.told) }
