use Rattle.std.proofs.Common.{refl, ◌∙◌, inl, subst}
use Rattle.std.specs.Prelude.{Ok}
use Rattle.scp_stand_node.specs.scp_turn.specs.Watch.{notes}
use Rattle.scp_live_process.proofs.Begun.{runs_as}
use Rattle.scp_live_process.proofs.Ended.{unmade, stops_as}
use Rattle.scp_live_process.specs.Ending.{streams, IsReportedAs}
use Rattle.scp_live_process.proofs.process.run_settings.Goals as goal

pub returns-in-Err-clause-stopped : goal.returns-in-Err-clause-stopped
returns-in-Err-clause-stopped g c = inl (record { same = refl; why = unmade c.args.settings.now c.in-Err.fault c.in-Err.ensures.only })

pub returns-in-Err-header_of-clause-stopped : goal.returns-in-Err-header_of-clause-stopped
returns-in-Err-header_of-clause-stopped g c = inl (record { same = refl; why = inl refl })

pub returns-in-Ok-run-clause-ran : goal.returns-in-Ok-run-clause-ran
returns-in-Ok-run-clause-ran g c =
    runs_as c.args.wanted (notes g.V.Watch.notes_before g.V.Watch.notes_after) c.args.watch.now c.run.new.watch g.L.EventLog.holds g.L.EventLog.may_leave (Ok tt) c.args.settings.now _ _ _ c.args.log c.in-Ok.live c.run.new.live c.new-kept.result c.run.new.kept c.as_slice-header.result.now
    (c.as_slice-header.ensures.value ∙ c.in-Ok-header_of.ensures.is) c.in-Ok.ensures.new c.new-kept.ensures.log c.each_node_holds_its_ledger.ensures.ledger c.each_node_holds_its_headline.ensures.headline c.in-Ok-run.ensures.ran

pub returns-clause-stopped : goal.returns-clause-stopped
returns-clause-stopped g c =
    stops_as g.L.EventLog.holds g.L.EventLog.may_leave g.L.EventLog.faults g.L.EventLog.moved c.in-Err-run.cause c.reported.result c.args.settings.now (streams (g.R.ScriptIn.left c.args.reader.now) (g.R.ScriptIn.failures c.args.reader.now) (g.W.ReportOut.written c.args.writer.now) (g.W.ReportOut.failures c.args.writer.now)) (streams (g.R.ScriptIn.left c.run.new.reader) (g.R.ScriptIn.failures c.run.new.reader) (g.W.ReportOut.written c.run.new.writer) (g.W.ReportOut.failures c.run.new.writer)) c.args.log c.in-Ok.live c.run.new.live c.new-kept.result c.run.new.kept c.as_slice-header.result.now
    (c.as_slice-header.ensures.value ∙ c.in-Ok-header_of.ensures.is) c.in-Ok.ensures.new c.new-kept.ensures.log c.each_node_holds_its_ledger.ensures.ledger c.each_node_holds_its_headline.ensures.headline
    (subst (λ (l : g.row.L.Denot). IsReportedAs (g.L.EventLog.moved l) c.in-Err-run.cause c.reported.result) c.log.ensures c.reported.ensures) c.in-Err-run.ensures.stopped
