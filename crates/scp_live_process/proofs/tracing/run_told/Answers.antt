use Rattle.std.proofs.Common.{inl, inr}
use Rattle.scp_live_process.proofs.Traced.{traces_run, untraced}
use Rattle.scp_live_process.proofs.tracing.run_told.Goals as goal

pub returns-in-Err-clause-stopped : goal.returns-in-Err-clause-stopped
returns-in-Err-clause-stopped g c = inl c.in-Err.ensures.stopped

pub returns-in-Some-clause-stopped : goal.returns-in-Some-clause-stopped
returns-in-Some-clause-stopped g c = inr (record { runs = c.in-Ok.ensures.ran.0; why = untraced c.in-Some.fault c.run_settings.new.watch.failures c.in-Some.ensures.why })

pub returns-in-None-clause-ran : goal.returns-in-None-clause-ran
returns-in-None-clause-ran g c =
    traces_run g.L.EventLog.holds g.L.EventLog.may_leave c.args.settings.now _ _ _ c.args.log c.args.watch.now c.run_settings.new.watch c.what_is_traced_is_what_happened.ensures c.requires.names c.requires.none c.in-None.ensures.none c.in-Ok.ensures.ran
